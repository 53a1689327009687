-- The forms in which numbers modulo the prime and the order are held.
use Rattle.std.proofs.Common.{◌*◌, ◌^◌, refl, arith}
use Rattle.curve_points.specs.Residues.{Congruent}
use Rattle.curve_words.specs.Forms.{meant, IsForm}
use Rattle.curve_p256.specs.Numbers.{prime, unscale, order, order_unscale, four_words}

pub prime_form : IsForm prime unscale (2 ^ 256)
prime_form = record { large = omega arith; unit = record { same = refl } }

pub order_form : IsForm order order_unscale (2 ^ 256)
order_form = record { large = omega arith; unit = record { same = refl } }

-- 2^512
pub prime_square :
    Congruent prime (four_words 3 0xfffffffbffffffff 0xfffffffffffffffe 0x4fffffffd * (unscale * unscale)) 1
prime_square = record { same = refl }

pub order_square : Congruent order (four_words 0x83244c95be79eea2 0x4699799c49bd6fa6 0x2845b2392b6bec59
    0x66e12d94f3d95620 * (order_unscale * order_unscale)) 1
order_square = record { same = refl }

-- 2^256
pub prime_one : Congruent prime (meant prime unscale (four_words 1 0xffffffff00000000 0xffffffffffffffff 0xfffffffe)) 1
unfolding meant
prime_one = record { same = refl }

pub order_one :
    Congruent order (meant order order_unscale (four_words 0xc46353d039cdaaf 0x4319055258e8617b 0 0xffffffff)) 1
unfolding meant
order_one = record { same = refl }
