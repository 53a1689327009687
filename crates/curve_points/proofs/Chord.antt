-- The chord in Jacobian coordinates: x = X / Z^2, y = Y / Z^3, a = A / C^2, b = B / C^3.
use Rattle.std.proofs.Common.{ℕ, ◌+◌, ◌*◌, arith}
use Rattle.curve_points.specs.Residues.{Congruent}
use Rattle.curve_points.specs.JacobianSteps.{IsAt, IsThird, IsChord}
use Rattle.curve_points.proofs.Congruence.{same, equal, turned, chained, summed, multiplied, scaled, combined}

-- the steps of the code, named as there
module _ (p X Y Z A B C zz cc u1 u2 zzz ccc s1 s2 h r hh hhh t rr two_t part nx gap turn fall ny zc nz : ℕ)
    (is_zz : Congruent p zz (Z * Z))
    (is_cc : Congruent p cc (C * C))
    (is_u1 : Congruent p u1 (X * cc))
    (is_u2 : Congruent p u2 (A * zz))
    (is_zzz : Congruent p zzz (zz * Z))
    (is_ccc : Congruent p ccc (cc * C))
    (is_s1 : Congruent p s1 (Y * ccc))
    (is_s2 : Congruent p s2 (B * zzz))
    (is_h : Congruent p (h + u1) u2)
    (is_r : Congruent p (r + s1) s2)
    (is_hh : Congruent p hh (h * h))
    (is_hhh : Congruent p hhh (hh * h))
    (is_t : Congruent p t (u1 * hh))
    (is_rr : Congruent p rr (r * r))
    (is_two_t : Congruent p two_t (t + t))
    (is_part : Congruent p (part + hhh) rr)
    (is_nx : Congruent p (nx + two_t) part)
    (is_gap : Congruent p (gap + nx) t)
    (is_turn : Congruent p turn (r * gap))
    (is_fall : Congruent p fall (s1 * hhh))
    (is_ny : Congruent p (ny + fall) turn)
    (is_zc : Congruent p zc (Z * C))
    (is_nz : Congruent p nz (h * zc)) where
  made_u1 : Congruent p u1 (X * (C * C))
  made_u1 = chained is_u1 (scaled X is_cc)

  made_u2 : Congruent p u2 (A * (Z * Z))
  made_u2 = chained is_u2 (scaled A is_zz)

  pub made_h : Congruent p (h + X * (C * C)) (A * (Z * Z))
  made_h = chained (summed (same p h) (turned made_u1)) (chained is_h made_u2)

  pub made_z : Congruent p nz (h * (Z * C))
  made_z = chained is_nz (scaled h is_zc)

  made_s1 : Congruent p s1 (Y * (C * C * C))
  made_s1 = chained is_s1 (scaled Y (chained is_ccc (multiplied is_cc (same p C))))

  made_s2 : Congruent p s2 (B * (Z * Z * Z))
  made_s2 = chained is_s2 (scaled B (chained is_zzz (multiplied is_zz (same p Z))))

  made_x : Congruent p (nx + hhh + 2 * t) (r * r)
  made_x =
      combined (nx + hhh + 2 * t) (r * r)
      (summed is_nx (summed is_part (summed is_rr (turned is_two_t))))
      (omega arith)

  made_y : Congruent p (ny + fall + r * nx) (r * t)
  made_y =
      combined (ny + fall + r * nx) (r * t)
      (summed is_ny (summed is_turn (scaled r is_gap)))
      (omega arith)

  -- d is a - x
  module _ (x y a b l u v d : ℕ) (old : IsAt p X Y Z x y) (other : IsAt p A B C a b) (apart : Congruent p (d + x) a)
      (slope : IsChord p x y a b l) (third : IsThird p x y a l u v) where
    u1_is : Congruent p u1 (x * (Z * Z * (C * C)))
    u1_is = chained made_u1 (chained (multiplied old.at_x (same p (C * C)))
        (equal p (x * (Z * Z) * (C * C)) (x * (Z * Z * (C * C))) (omega arith)))

    s1_is : Congruent p s1 (y * (Z * Z * Z * (C * C * C)))
    s1_is = chained made_s1 (chained (multiplied old.at_y (same p (C * C * C)))
        (equal p (y * (Z * Z * Z) * (C * C * C)) (y * (Z * Z * Z * (C * C * C))) (omega arith)))

    pub h_is : Congruent p h (d * (Z * Z * (C * C)))
    h_is =
        combined h (d * (Z * Z * (C * C)))
        (summed is_h
        (summed made_u2
        (summed (multiplied other.at_x (same p (Z * Z)))
        (summed (turned u1_is)
        (scaled (Z * Z * (C * C)) (turned apart))))))
        (omega arith)

    z_is : Congruent p nz (d * (Z * Z * Z * (C * C * C)))
    z_is = chained made_z (chained (multiplied h_is (same p (Z * C)))
        (equal p (d * (Z * Z * (C * C)) * (Z * C)) (d * (Z * Z * Z * (C * C * C))) (omega arith)))

    r_is : Congruent p r (l * nz)
    r_is =
        combined r (l * nz)
        (summed is_r
        (summed made_s2
        (summed (multiplied other.at_y (same p (Z * Z * Z)))
        (summed (turned s1_is)
        (summed (scaled (Z * Z * Z * (C * C * C)) (turned slope))
        (summed (scaled (Z * Z * Z * (C * C * C) * l) (turned apart))
        (scaled l (turned z_is))))))))
        (omega arith)

    square_is : Congruent p (h * h * (Z * Z * (C * C))) (nz * nz)
    square_is =
        combined (h * h * (Z * Z * (C * C))) (nz * nz)
        (multiplied (turned made_z) (turned made_z))
        (omega arith)

    -- u1 h^2 = x Z'^2
    t_is : Congruent p t (x * (nz * nz))
    t_is =
        combined t (x * (nz * nz))
        (summed is_t
        (summed (multiplied u1_is is_hh)
        (scaled x square_is)))
        (omega arith)

    -- h^3 = d Z'^2
    cube_is : Congruent p hhh (d * (nz * nz))
    cube_is =
        combined hhh (d * (nz * nz))
        (summed is_hhh
        (summed (multiplied is_hh h_is)
        (scaled d square_is)))
        (omega arith)

    x_is : Congruent p nx (u * (nz * nz))
    x_is =
        combined nx (u * (nz * nz))
        (summed made_x
        (summed (multiplied r_is r_is)
        (summed (scaled (nz * nz) (turned third.next_x))
        (summed (scaled 2 (turned t_is))
        (summed (turned cube_is)
        (scaled (nz * nz) (turned apart)))))))
        (omega arith)

    -- s1 h^3 = y Z'^3
    fall_is : Congruent p fall (y * (nz * nz * nz))
    fall_is =
        combined fall (y * (nz * nz * nz))
        (summed is_fall
        (summed (multiplied s1_is cube_is)
        (scaled (y * (nz * nz)) (turned z_is))))
        (omega arith)

    y_is : Congruent p ny (v * (nz * nz * nz))
    y_is =
        combined ny (v * (nz * nz * nz))
        (summed made_y
        (summed (multiplied r_is t_is)
        (summed (turned fall_is)
        (summed (scaled (nz * nz * nz) (turned third.next_y))
        (multiplied (turned r_is) (turned x_is))))))
        (omega arith)

    pub added_is : IsAt p nx ny nz u v
    added_is = record { at_x = x_is; at_y = y_is }
