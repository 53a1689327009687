-- The tangent in Jacobian coordinates: x = X / Z^2, y = Y / Z^3.
use Rattle.std.proofs.Common.{ℕ, ◌+◌, ◌*◌, arith}
use Rattle.curve_points.specs.Residues.{Congruent}
use Rattle.curve_points.specs.JacobianSteps.{IsAt, IsThird, IsTangent}
use Rattle.curve_points.proofs.Congruence.{same, equal, turned, chained, summed, multiplied, scaled, combined}

-- the steps of the code, named as there
module _ (p X Y Z zz yy xyy two_xyy s low high product two_products m mm ss nx gap turn y4 two_y4 four_y4 eight_y4 ny yz
    nz : ℕ)
    (is_zz : Congruent p zz (Z * Z))
    (is_yy : Congruent p yy (Y * Y))
    (is_xyy : Congruent p xyy (X * yy))
    (is_two_xyy : Congruent p two_xyy (xyy + xyy))
    (is_s : Congruent p s (two_xyy + two_xyy))
    (is_low : Congruent p (low + zz) X)
    (is_high : Congruent p high (X + zz))
    (is_product : Congruent p product (low * high))
    (is_two_products : Congruent p two_products (product + product))
    (is_m : Congruent p m (two_products + product))
    (is_mm : Congruent p mm (m * m))
    (is_ss : Congruent p ss (s + s))
    (is_nx : Congruent p (nx + ss) mm)
    (is_gap : Congruent p (gap + nx) s)
    (is_turn : Congruent p turn (m * gap))
    (is_y4 : Congruent p y4 (yy * yy))
    (is_two_y4 : Congruent p two_y4 (y4 + y4))
    (is_four_y4 : Congruent p four_y4 (two_y4 + two_y4))
    (is_eight_y4 : Congruent p eight_y4 (four_y4 + four_y4))
    (is_ny : Congruent p (ny + eight_y4) turn)
    (is_yz : Congruent p yz (Y * Z))
    (is_nz : Congruent p nz (yz + yz)) where
  made_m : Congruent p (m + 3 * (zz * zz)) (3 * (X * X))
  made_m =
      combined (m + 3 * (zz * zz)) (3 * (X * X))
      (summed is_m (summed is_two_products (summed (scaled 3 is_product)
      (summed (scaled 3 (multiplied is_low is_high)) (scaled (3 * zz) (turned is_high))))))
      (omega arith)

  pub made_z : Congruent p nz (2 * (Y * Z))
  made_z = combined nz (2 * (Y * Z)) (summed is_nz (scaled 2 is_yz)) (omega arith)

  made_s : Congruent p s (4 * (X * (Y * Y)))
  made_s =
      combined s (4 * (X * (Y * Y)))
      (summed is_s (summed (scaled 2 is_two_xyy) (summed (scaled 4 is_xyy) (scaled (4 * X) is_yy))))
      (omega arith)

  made_x : Congruent p (nx + 2 * s) (m * m)
  made_x = combined (nx + 2 * s) (m * m) (summed is_nx (summed (turned is_ss) is_mm)) (omega arith)

  made_eight : Congruent p eight_y4 (8 * (Y * Y * (Y * Y)))
  made_eight =
      combined eight_y4 (8 * (Y * Y * (Y * Y)))
      (summed is_eight_y4 (summed (scaled 2 is_four_y4)
      (summed (scaled 4 is_two_y4) (summed (scaled 8 is_y4) (scaled 8 (multiplied is_yy is_yy))))))
      (omega arith)

  made_y : Congruent p (ny + eight_y4 + m * nx) (m * s)
  made_y =
      combined (ny + eight_y4 + m * nx) (m * s)
      (summed is_ny (summed is_turn (scaled m is_gap)))
      (omega arith)

  module _ (x y l u v : ℕ) (old : IsAt p X Y Z x y) (slope : IsTangent p x y l) (third : IsThird p x y x l u v) where
    -- 2 y Z^4
    z_is : Congruent p nz (2 * (y * (Z * Z * (Z * Z))))
    z_is =
        chained made_z (chained (scaled 2 (multiplied old.at_y (same p Z)))
        (equal p (2 * (y * (Z * Z * Z) * Z)) (2 * (y * (Z * Z * (Z * Z)))) (omega arith)))

    m_is : Congruent p m (l * nz)
    m_is =
        combined m (l * nz)
        (summed made_m
        (summed (scaled 3 (turned (multiplied is_zz is_zz)))
        (summed (scaled 3 (multiplied old.at_x old.at_x))
        (summed (scaled (Z * Z * (Z * Z)) (turned slope))
        (scaled l (turned z_is))))))
        (omega arith)

    s_is : Congruent p s (x * (nz * nz))
    s_is =
        combined s (x * (nz * nz))
        (summed made_s
        (summed (scaled 4 (multiplied old.at_x (multiplied old.at_y old.at_y)))
        (scaled x (multiplied (turned z_is) (turned z_is)))))
        (omega arith)

    x_is : Congruent p nx (u * (nz * nz))
    x_is =
        combined nx (u * (nz * nz))
        (summed made_x
        (summed (multiplied m_is m_is)
        (summed (scaled (nz * nz) (turned third.next_x))
        (scaled 2 (turned s_is)))))
        (omega arith)

    eight_is : Congruent p eight_y4 (y * (nz * nz * nz))
    eight_is =
        combined eight_y4 (y * (nz * nz * nz))
        (summed made_eight
        (summed (scaled 8 (multiplied (multiplied old.at_y old.at_y) (multiplied old.at_y old.at_y)))
        (scaled y (multiplied (multiplied (turned z_is) (turned z_is)) (turned z_is)))))
        (omega arith)

    y_is : Congruent p ny (v * (nz * nz * nz))
    y_is =
        combined ny (v * (nz * nz * nz))
        (summed made_y
        (summed (multiplied m_is s_is)
        (summed (turned eight_is)
        (summed (scaled (nz * nz * nz) (turned third.next_y))
        (multiplied (turned m_is) (turned x_is))))))
        (omega arith)

    pub doubled_is : IsAt p nx ny nz u v
    doubled_is = record { at_x = x_is; at_y = y_is }
