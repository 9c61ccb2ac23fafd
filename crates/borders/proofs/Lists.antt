-- The list of the boundary planes, plane by plane.
--     SoFar                              the boundary planes among the first i planes
--     so_far_none, passed_on, listed_on, so_far_all   before the first plane, one plane more, after the last
--     Listing                            the loop's invariant
--     listing_none, next_in, room_in, listing_hit, listing_miss, listing_all   its beginning, what a turn is given, a turn, its end
use mathlib.Core.Path.{◌≡◌, refl, sym, ap, subst, ◌∙◌}
use mathlib.Core.Bool.{Bool, true, false}
use mathlib.Core.List.{List}
use mathlib.Core.Logic.{inl, inr}
use Prim.Native.Nat.{ℕ, ◌+◌, ◌/◌, ◌≤◌, ◌<◌}
use native.Mathlib.Omega.{arith}
use borrow.Author.Count.{below_more}
use lib.IntN.{ℤ}
use lib.ListN.{length, get_or, set, take}
use Rattle.std.proofs.lemmas.Bool.Decides.{not_from_Decides}
use Rattle.std.proofs.lemmas.List.{length-set}
use lib.Seq.{get_or-set_same, get_or-set_other, get_or-take, length-take-le}
use Rattle.whole.specs.Members.{◌∈◌, in_either}
use Rattle.scope.specs.Planes.{Plane}
use Rattle.scope.specs.Solids.{Tree, planes}
use Rattle.scope.specs.Normal.{Space, Boundary}
use Rattle.tables.specs.Rows.{plane_at}
use Rattle.walks.specs.declared.rows.Operands.{Operands}
use Rattle.walks.specs.Standing.{list}
use Rattle.borders.specs.declared.Pair.{Pair}
use Rattle.borders.specs.Bounded.{PairIs, pair_space, listed, Bounded}
use Rattle.borders.specs.Borders.{Members, BoundaryIn, BoundaryTold, BordersIn, BordersTold}
use Rattle.borders.proofs.Rows.{list_length, member_row, own_row, stands_planes}

-- a plane of number n stands in a place before k
record Placed (l : List ℕ) (k n : ℕ) : Type 0 where
  place : ℕ
  inside : place < k
  is : get_or l place 0 ≡ n

-- the first k entries are the numbers, rising, of the boundary planes among the first i
pub record SoFar (S : Space) (xs : List ℤ) (l : List ℕ) (k i : ℕ) : Type 0 where
  small : (j : ℕ) → j < k → get_or l j 0 < i
  are : (j : ℕ) → j < k → Boundary S (listed xs l j)
  rising : (m n : ℕ) → m < n → n < k → get_or l m 0 < get_or l n 0
  all : (n : ℕ) → n < i → Boundary S (plane_at xs n) → Placed l k n

module _ {S : Space} {xs : List ℤ} where
  pub so_far_none : {l : List ℕ} → SoFar S xs l 0 0
  so_far_none = record { small = λ j b. absurd (omega (arith, b)); are = λ j b. absurd (omega (arith, b)); rising = λ m n a b. absurd (omega (arith, b)); all = λ n b. absurd (omega (arith, b)) }

  -- plane i is no boundary plane
  pub passed_on : {l : List ℕ} {k i : ℕ} → SoFar S xs l k i → ¬ Boundary S (plane_at xs i) → SoFar S xs l k (i + 1)
  passed_on {l} {k} {i} h n = record {
    small = λ j b. omega (arith, h.small j b);
    are = h.are;
    rising = h.rising;
    all = below_more (λ m. Boundary S (plane_at xs m) → Placed l k m) i h.all (λ d. absurd (n d));
  }

  -- plane i is one, and is listed as the k-th
  pub listed_on : {l : List ℕ} {k i : ℕ} → k < length l → SoFar S xs l k i → Boundary S (plane_at xs i) → SoFar S xs (set l k i) (k + 1) (i + 1)
  listed_on {l} {k} {i} room h d = record {
    small = below_more (λ j. get_or l' j 0 < i + 1) k (λ j b. omega (arith, old j b, h.small j b)) (omega (arith, new));
    are = below_more (λ j. Boundary S (listed xs l' j)) k (λ j b. subst (λ n. Boundary S (plane_at xs n)) (sym (old j b)) (h.are j b)) (subst (λ n. Boundary S (plane_at xs n)) (sym new) d);
    rising = λ m n a b. below_more (λ n. m < n → get_or l' m 0 < get_or l' n 0) k (λ n b a. omega (arith, old m (omega (arith, a, b)), old n b, h.rising m n a b)) (λ a. omega (arith, old m a, new, h.small m a)) n b a;
    all = below_more (λ n. Boundary S (plane_at xs n) → Placed l' (k + 1) n) i (λ n b f. let q = h.all n b f in record { place = q.place; inside = omega (arith, q.inside); is = old q.place q.inside ∙ q.is }) (λ f. record { place = k; inside = omega arith; is = new });
  }
    where
      l' : List ℕ
      l' = set l k i

      old : (j : ℕ) → j < k → get_or l' j 0 ≡ get_or l j 0
      old j b = get_or-set_other l k j i 0 (λ e. omega (arith, e, b))

      new : get_or l' k 0 ≡ i
      new = get_or-set_same l k i 0 room

  -- every plane is asked
  pub so_far_all : {l : List ℕ} {k : ℕ} → k ≤ length l → SoFar S xs l k (length (list xs)) → ((q : Plane) → q ∈ S.list → q ∈ list xs) → Bounded S xs (take k l)
  so_far_all {l} {k} room h m = record {
    are = λ j b. let c = within j b in let e = sym (get_or-take k l j 0 c) in (subst (λ n. n < length (list xs)) e (h.small j c), subst (λ n. Boundary S (plane_at xs n)) e (h.are j c));
    rising = λ i j a b. let c = within j b in omega (arith, get_or-take k l i 0 (omega (arith, a, c)), get_or-take k l j 0 c, h.rising i j a c);
    all = λ q d.
        let w = member_row (m q d.member) in
        let f = h.all w.number w.inside (subst (Boundary S) (sym w.is) d) in
        record { place = f.place; late = omega arith; inside = omega (arith, length-take-le k l room, f.inside); is = ap (plane_at xs) (get_or-take k l f.place 0 f.inside ∙ f.is) ∙ w.is };
  }
    where
      within : (j : ℕ) → j < length (take k l) → j < k
      within j b = omega (arith, b, length-take-le k l room)

-- ---- the loop

-- i planes are asked and k are listed; the tables are as long as they were
pub record Listing (o : Operands) (pair : Pair) (path₀ : List ℤ) (boundary₀ : List ℕ) (path : List ℤ) (boundary : List ℕ) (k i : ℕ) : Type 0 where
  pub few : k ≤ i
  pub inside : i ≤ length o.planes.now / 4
  pub path_long : length path ≡ length path₀
  pub boundary_long : length boundary ≡ length boundary₀
  pub so_far : (A B : Tree) → PairIs o pair A B → Members o.planes.now A B → SoFar (pair_space pair A B) o.planes.now boundary k i

module _ {o : Operands} {pair : Pair} {path₀ : List ℤ} {boundary₀ : List ℕ} (h : BordersIn o pair path₀ boundary₀) where
  pub listing_none : Listing o pair path₀ boundary₀ path₀ boundary₀ 0 0
  listing_none = record { few = omega arith; inside = omega arith; path_long = refl; boundary_long = refl; so_far = λ A B pi ms. so_far_none }

  module _ {path : List ℤ} {boundary : List ℕ} {k i : ℕ} (l : Listing o pair path₀ boundary₀ path boundary k i) where
    module _ (more : i < length o.planes.now / 4) where
      pub next_in : BoundaryIn o pair path i
      next_in =
          let g = h.grounds in
          record {
            grounds = record { lawful = g.lawful; few = g.few; path_room = omega (arith, l.path_long, g.path_room) };
            own = own_row h.order i (omega (arith, more, list_length o.planes.now));
            tree_a = h.tree_a;
            tree_b = h.tree_b;
            pair_is = h.pair_is;
          }

      pub room_in : (k < length boundary) × (i < 128)
      room_in = (omega (arith, more, l.few, l.boundary_long, h.room, h.grounds.few, list_length o.planes.now), omega (arith, more, h.grounds.few, list_length o.planes.now))

      module _ {path' : List ℤ} (ep : length path' ≡ length path) {z : Bool} (t : BoundaryTold o pair i z) {boundary' : List ℕ} {k' : ℕ} where
        pub listing_hit : z ≡ true → boundary' ≡ set boundary k i → k' ≡ k + 1 → Listing o pair path₀ boundary₀ path' boundary' k' (i + 1)
        listing_hit e eb ek = record {
          few = omega (arith, l.few, ek);
          inside = omega (arith, more);
          path_long = ep ∙ l.path_long;
          boundary_long = ap length eb ∙ length-set boundary k i ∙ l.boundary_long;
          so_far = λ A B pi ms.
              rw (eb, ek) (listed_on room_in.0 (l.so_far A B pi ms) ((t A B pi ms).0 e));
        }

        pub listing_miss : z ≡ false → boundary' ≡ boundary → k' ≡ k → Listing o pair path₀ boundary₀ path' boundary' k' (i + 1)
        listing_miss e eb ek = record {
          few = omega (arith, l.few, ek);
          inside = omega (arith, more);
          path_long = ep ∙ l.path_long;
          boundary_long = ap length eb ∙ l.boundary_long;
          so_far = λ A B pi ms.
              rw (eb, ek) (passed_on (l.so_far A B pi ms) (not_from_Decides z (t A B pi ms) e));
        }

    pub listing_all : length o.planes.now / 4 ≤ i → BordersTold o pair boundary k
    listing_all end =
        let e : i ≡ length (list o.planes.now) = omega (arith, end, l.inside, list_length o.planes.now) in
        record {
          few = omega (arith, e, l.few);
          bounded = λ A B pi ms. so_far_all (omega (arith, e, l.few, l.boundary_long, h.room, h.grounds.few)) (subst (SoFar (pair_space pair A B) o.planes.now boundary k) e (l.so_far A B pi ms))
              (λ p m. elim (in_either (planes A) (planes B) m) [ inl j ↦ stands_planes pi.first_stands p j | inr j ↦ stands_planes pi.second_stands p j ]);
        }
