-- A polygon's corners clipped by the bound of an index h, as a loop does it: corner by corner, the index put out last at hand.
--     corner_side, signal_at   the side of h on which a corner's vertex lies; what the table says of corner i
--     put_corner, put_last     what a corner puts out after the index put out last, and the index put out last then
--     prev_to, put_to          the index put out last by the first i corners, and what they put out
--     put_to_length            they put out no more than all of them
--     clip_corners             all of them put out the corners of the clip
--     clip_all_front, clip_no_front   with every vertex in front of h the clip keeps all bounds, and with none it keeps no bound
-- A bound that is put out alone keeps its vertex: the bound before it is put out too (`put_before`). So the first corner starts from the index that the whole loop puts out last.
use Rattle.std.specs.Prelude.{◌≡◌, ◌≢◌, pos, length, get_or}
use Rattle.std.proofs.Math.Path.{refl, sym, ap}
use Rattle.std.proofs.Common.{◌∙◌, take-suc}
use mathlib.Core.List.{List, [], ◌∷◌, ◌++◌, append-nil}
use Prim.Native.Nat.{ℕ, zero, suc, ◌+◌, ◌-◌, ◌≤◌, ◌<◌}
use native.Mathlib.Omega.{arith}
use Rattle.std.proofs.Math.ListN.{take, length-append}
use Rattle.std.proofs.Math.Seq.{take-length}
use Rattle.whole.specs.Tests.{differ}
use Rattle.whole.specs.Vec.{xyz, det3}
use Rattle.whole.specs.Order.{◌⋖◌}
use Rattle.whole.specs.Sign.{Sign, minus, nought, plus, sgn, sgn_above}
use Rattle.whole.specs.Lists.{final, final_app}
use Rattle.scope.specs.Planes.{Plane, Point, at, meet}
use Rattle.scope.specs.Section.{Signal, nothing, B, HB, table, put, clip_by}
use Rattle.theory.specs.Section.Emit.{Low, low_0, low_1, quiet}
use Rattle.theory.specs.Section.Index.{prior, next, prior_less, next_less, next_prior, side_at, clip_to, clip_to_all}
use Rattle.theory.specs.Section.Witness.{at_meet}
use Rattle.theory.specs.Section.Corners.{Corner, corner, index, vertex, corners_from, corners, corners_length, corners_at, Upright, upright_at, bound_side}

-- the index put out last, after a corner
abbrev pub put_last : Signal → ℕ → Corner → ℕ
put_last nothing p c = p
put_last B p c = index c
put_last HB p c = index c

-- a corner that puts out its bound alone follows one that puts out something
put_before : (a q t n : Sign) (p : ℕ) (c : Corner) → table q t n ≡ B → put_last (table a q t) p c ≡ index c
put_before a plus t n p c e = refl
put_before a minus plus n p c e = refl
put_before plus nought plus n p c e = refl
put_before nought nought plus n p c e = refl
put_before minus nought plus n p c e = refl
put_before a nought nought plus p c e = differ (cc)
put_before a nought nought nought p c e = differ (cc)
put_before a nought nought minus p c e = differ (cc)
put_before a nought minus plus p c e = differ (cc)
put_before a nought minus nought p c e = differ (cc)
put_before a nought minus minus p c e = differ (cc)
put_before a minus nought plus p c e = differ (cc)
put_before a minus nought nought p c e = differ (cc)
put_before a minus nought minus p c e = differ (cc)
put_before a minus minus plus p c e = differ (cc)
put_before a minus minus nought p c e = differ (cc)
put_before a minus minus minus p c e = differ (cc)

low_of : (g : Sign) → g ≢ plus → Low g
low_of plus n = absurd (n refl)
low_of nought n = low_0
low_of minus n = low_1

final_put : (g : Signal) (h p b : ℕ) (v : Point) (xs : List ℕ) → put_last g (final p xs) (corner b v) ≡ final p (xs ++ put g h b)
final_put nothing h p b v xs = sym (ap (λ (l : List ℕ). final p l) (append-nil xs))
final_put B h p b v xs = sym (final_app p xs b [])
final_put HB h p b v xs = sym (final_app p xs h (b ∷ []))

module _ (s : Plane) (plane : ℕ → Plane) where
  corners_app : (p : ℕ) (xs ys : List ℕ) → corners_from s plane p (xs ++ ys) ≡ corners_from s plane p xs ++ corners_from s plane (final p xs) ys
  unfolding corners_from
  corners_app p [] ys = refl
  corners_app p (x ∷ xs) ys = ap (λ (l : List Corner). corner x (meet s (plane p) (plane x)) ∷ l) (corners_app x xs ys)

  -- the last of the corners of a list that closes is before the first, whatever was before
  corners_closed : (p : ℕ) (is : List ℕ) → corners_from s plane (final p is) is ≡ corners s plane is
  unfolding corners_from corners
  corners_closed p [] = refl
  corners_closed p (i ∷ is) = refl

  module _ (h : ℕ) where
    -- the side of h on which the vertex lies
    abbrev pub corner_side : Corner → Sign
    corner_side c = sgn (at (plane h) (vertex c))

    -- after the index p
    abbrev pub put_corner : Signal → ℕ → Corner → List Corner
    put_corner nothing p c = []
    put_corner B p c = c ∷ []
    put_corner HB p c = corner h (meet s (plane p) (plane h)) ∷ corner (index c) (meet s (plane h) (plane (index c))) ∷ []

    put_corners : (g : Signal) (p q b : ℕ) → (g ≡ B → p ≡ q) → put_corner g p (corner b (meet s (plane q) (plane b))) ≡ corners_from s plane p (put g h b)
    unfolding corners_from
    put_corners nothing p q b f = refl
    put_corners B p q b f = ap (λ (p : ℕ). corner b (meet s (plane p) (plane b)) ∷ []) (sym (f refl))
    put_corners HB p q b f = refl

    -- where the vertex is a point, the side is that of the determinants
    corner_vertex_side : (p b : ℕ) → pos 0 ⋖ det3 (xyz s) (xyz (plane p)) (xyz (plane b)) → sgn (at (plane h) (meet s (plane p) (plane b))) ≡ bound_side s plane h p b
    corner_vertex_side p b u = ap sgn (at_meet s (plane p) (plane b) (plane h)) ∙ rw (sgn_above u)

    -- ---- the loop; d is what `get_or` gives outside of the list

    module _ (d : Corner) where
      -- by the sides of the vertices before, at and after corner i in the cycle
      abbrev pub signal_at : List Corner → ℕ → Signal
      signal_at cs i = table (corner_side (get_or cs (prior (length cs) i) d)) (corner_side (get_or cs i d)) (corner_side (get_or cs (next (length cs) i) d))

      -- the index put out last by the first i corners, p being put out last before them
      unfoldable pub prev_to : ℕ → List Corner → ℕ → ℕ
      prev_to p cs zero = p
      prev_to p cs (suc i) = put_last (signal_at cs i) (prev_to p cs i) (get_or cs i d)

      -- what the first i corners put out
      unfoldable pub put_to : ℕ → List Corner → ℕ → List Corner
      put_to p cs zero = []
      put_to p cs (suc i) = put_to p cs i ++ put_corner (signal_at cs i) (prev_to p cs i) (get_or cs i d)

      put_to_more : (p : ℕ) (cs : List Corner) (i k j : ℕ) → i + k ≡ j → length (put_to p cs i) ≤ length (put_to p cs j)
      unfolding put_to
      put_to_more p cs i zero j e = let f : i ≡ j = omega arith in rw f (omega arith)
      put_to_more p cs i (suc k) zero e = absurd (omega arith)
      put_to_more p cs i (suc k) (suc j) e =
          omega (arith, put_to_more p cs i k j (omega arith), length-append (put_to p cs j) (put_corner (signal_at cs j) (prev_to p cs j) (get_or cs j d)))

      -- the first i corners put out no more than the first j, so a table with room for what all put out has room at each turn
      pub put_to_length : (p : ℕ) (cs : List Corner) (i j : ℕ) → i ≤ j → length (put_to p cs i) ≤ length (put_to p cs j)
      put_to_length p cs i j l = put_to_more p cs i (j - i) j (omega arith)

      -- ---- the loop over the corners of is

      module _ (is : List ℕ) (up : Upright s plane is) where
        abbrev cs : List Corner
        cs = corners s plane is

        abbrev n : ℕ
        n = length is

        abbrev bound : ℕ → ℕ
        bound i = get_or is i 0

        abbrev side : ℕ → Sign
        side i = side_at (bound_side s plane h) h 0 is i

        abbrev said : ℕ → Signal
        said i = table (side (prior n i)) (side i) (side (next n i))

        abbrev clipped : ℕ → List ℕ
        clipped i = clip_to (bound_side s plane h) h 0 is i

        -- the loop sees the sides that the clip sees, and reads the same of the table
        side_same : (i : ℕ) → i < n → corner_side (get_or cs i d) ≡ side i
        side_same i l = ap corner_side (corners_at s plane d 0 is i l) ∙ corner_vertex_side (bound (prior n i)) (bound i) (upright_at s plane is up 0 i l)

        signal_same : (i : ℕ) → i < n → signal_at cs i ≡ said i
        signal_same i l =
            let a = ap (λ (m : ℕ). corner_side (get_or cs (prior m i) d)) (corners_length s plane is) ∙ side_same (prior n i) (prior_less n i l) in
            let b = side_same i l in
            let c = ap (λ (m : ℕ). corner_side (get_or cs (next m i) d)) (corners_length s plane is) ∙ side_same (next n i) (next_less n i l) in
            λ t. table (a t) (b t) (c t)

        -- one turn of the loop, by the bounds
        prev_step : (p i : ℕ) → i < n → prev_to p cs (suc i) ≡ put_last (said i) (prev_to p cs i) (corner (bound i) (meet s (plane (bound (prior n i))) (plane (bound i))))
        unfolding prev_to
        prev_step p i l = λ t. put_last (signal_same i l t) (prev_to p cs i) (corners_at s plane d 0 is i l t)

        put_step : (p i : ℕ) → i < n → put_to p cs (suc i) ≡ put_to p cs i ++ put_corner (said i) (prev_to p cs i) (corner (bound i) (meet s (plane (bound (prior n i))) (plane (bound i))))
        unfolding put_to
        put_step p i l = λ t. put_to p cs i ++ put_corner (signal_same i l t) (prev_to p cs i) (corners_at s plane d 0 is i l t)

        -- before a bound that is put out alone, the one before it was put out
        prev_before : (p i : ℕ) → i < n → said i ≡ B → prev_to p cs (suc (prior n i)) ≡ bound (prior n i)
        prev_before p i l e =
            let j = prior n i in
            let c = corner (bound j) (meet s (plane (bound (prior n j))) (plane (bound j))) in
            prev_step p j (prior_less n i l) ∙ ap (λ (k : ℕ). put_last (table (side (prior n j)) (side j) (side k)) (prev_to p cs j) c) (next_prior n i l)
            ∙ put_before (side (prior n j)) (side j) (side i) (side (next n i)) (prev_to p cs j) c e

        -- the index put out last is the last of those put out
        prev_is : (p i : ℕ) → i ≤ n → prev_to p cs i ≡ final p (clipped i)
        unfolding clip_to prev_to
        prev_is p zero l = refl
        prev_is p (suc i) l =
            let v = meet s (plane (bound (prior n i))) (plane (bound i)) in
            prev_step p i l ∙ ap (λ (q : ℕ). put_last (said i) q (corner (bound i) v)) (prev_is p i (omega arith)) ∙ final_put (said i) h p (bound i) v (clipped i)

        module _ (p : ℕ) (f : said 0 ≡ B → p ≡ bound (prior n 0)) where
          prev_said : (i : ℕ) → i < n → said i ≡ B → prev_to p cs i ≡ bound (prior n i)
          unfolding prev_to
          prev_said zero l e = f e
          prev_said (suc i) l e = prev_before p (suc i) l e

          -- what is put out are the corners of the bounds put out
          put_is : (i : ℕ) → i ≤ n → put_to p cs i ≡ corners_from s plane p (clipped i)
          unfolding clip_to put_to corners_from
          put_is zero l = refl
          put_is (suc i) l =
              let a = put_is i (omega arith) in
              let b = put_corners (said i) (prev_to p cs i) (bound (prior n i)) (bound i) (prev_said i l) in
              put_step p i l ∙ (λ t. a t ++ b t) ∙ ap (λ (q : ℕ). corners_from s plane p (clipped i) ++ corners_from s plane q (put (said i) h (bound i))) (prev_is p i (omega arith))
              ∙ sym (corners_app p (clipped i) (put (said i) h (bound i)))

        abbrev clip_h : List ℕ
        clip_h = clip_by (bound_side s plane h) h is

        -- the loop, started from the index that it puts out last, puts out the corners of the clip
        pub clip_corners : (p : ℕ) → put_to (prev_to p cs (length cs)) cs (length cs) ≡ corners s plane clip_h
        unfolding put_to clip_to corners_from
        clip_corners p =
            let m = corners_length s plane is in
            let c = clip_to_all (bound_side s plane h) h 0 is in
            let q = prev_is p n (omega arith) in
            (λ t. put_to (prev_to p cs (m t)) cs (m t)) ∙ go n refl ∙ ap (λ (i : ℕ). corners_from s plane i (clipped n)) q ∙ corners_closed p (clipped n) ∙ ap (λ (l : List ℕ). corners s plane l) c
          where
            go : (k : ℕ) → n ≡ k → put_to (prev_to p cs n) cs n ≡ corners_from s plane (prev_to p cs n) (clipped n)
            go zero e = ap (λ (i : ℕ). put_to (prev_to p cs n) cs i) e ∙ sym (ap (λ (i : ℕ). corners_from s plane (prev_to p cs n) (clipped i)) e)
            go (suc k) e =
                let r : n ≡ suc (prior n 0) = omega arith in
                put_is (prev_to p cs n) (λ b. ap (λ (i : ℕ). prev_to p cs i) r ∙ prev_before p 0 (omega arith) b) n (omega arith)

        -- every vertex in front of h: the clip keeps all bounds
        pub clip_all_front : ((i : ℕ) → i < n → corner_side (get_or cs i d) ≡ plus) → clip_h ≡ is
        unfolding clip_to
        clip_all_front f = sym (clip_to_all (bound_side s plane h) h 0 is) ∙ go n (omega arith) ∙ take-length is
          where
            go : (i : ℕ) → i ≤ n → clipped i ≡ take i is
            go zero l = refl
            go (suc i) l =
                let a = go i (omega arith) in
                let e = sym (side_same i l) ∙ f i l in
                (λ t. a t ++ put (table (side (prior n i)) (e t) (side (next n i))) h (bound i)) ∙ sym (take-suc is i 0 l)

        -- no vertex in front of h: the clip keeps none
        pub clip_no_front : ((i : ℕ) → i < n → corner_side (get_or cs i d) ≢ plus) → clip_h ≡ []
        unfolding clip_to
        clip_no_front f = sym (clip_to_all (bound_side s plane h) h 0 is) ∙ go n (omega arith)
          where
            low : (i : ℕ) → i < n → Low (side i)
            low i l = low_of (side i) (λ e. f i l (side_same i l ∙ e))

            go : (i : ℕ) → i ≤ n → clipped i ≡ []
            go zero l = refl
            go (suc i) l =
                let a = go i (omega arith) in
                let e = quiet (side (prior n i)) (low i l) (low (next n i) (next_less n i l)) in
                λ t. a t ++ put (e t) h (bound i)
