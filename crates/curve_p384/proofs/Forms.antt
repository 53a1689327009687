-- The forms in which numbers modulo the prime and the order are held.
use Rattle.std.proofs.Common.{◌*◌, ◌^◌, refl, arith}
use Rattle.curve_points.specs.Residues.{Congruent}
use Rattle.curve_words.specs.Forms.{meant, IsForm}
use Rattle.curve_p384.specs.Numbers.{prime, unscale, order, order_unscale, six_words}

pub prime_form : IsForm prime unscale (2 ^ 384)
prime_form = record { large = omega arith; unit = record { same = refl } }

pub order_form : IsForm order order_unscale (2 ^ 384)
order_form = record { large = omega arith; unit = record { same = refl } }

-- 2^768
pub prime_square : Congruent prime
    (six_words 0xfffffffe00000001 0x200000000 0xfffffffe00000000 0x200000000 1 0 * (unscale * unscale)) 1
prime_square = record { same = refl }

pub order_square : Congruent order (six_words 0x2d319b2419b409a9 0xff3d81e5df1aa419 0xbc3e483afcb82947
    0xd40d49174aab1cc5 0x3fb05b7a28266895 0xc84ee012b39bf21 * (order_unscale * order_unscale)) 1
order_square = record { same = refl }

-- 2^384
pub prime_one : Congruent prime (meant prime unscale (six_words 0xffffffff00000001 0xffffffff 1 0 0 0)) 1
unfolding meant
prime_one = record { same = refl }

pub order_one : Congruent order
    (meant order order_unscale (six_words 0x1313e695333ad68d 0xa7e5f24db74f5885 0x389cb27e0bc8d220 0 0 0)) 1
unfolding meant
order_one = record { same = refl }
