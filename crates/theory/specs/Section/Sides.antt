-- What a section clips by: start and remaining planes of each way are the six sides of the box, so that it is these and the half-spaces given.
--     sides           x-, x+, y-, y+, z-, z+
--     given           start, remaining planes and half-spaces, in the order in which they bind
--     given_sides     each of them is a side or a half-space
--     at_weight       the plane whose value is a point's w
--     inside_given, given_inside   a point strictly in the box and in each half-space is strictly inside each of them, and back if its w is positive
--     section_given   each bound of a section is one of them
use Rattle.std.specs.Prelude.{◌≡◌, refl, Bool, true, false, List, [], ◌∷◌, ◌++◌, ◌⊎◌, T}
use Rattle.std.proofs.Common.{append_assoc, inl, inr}
use Rattle.std.proofs.Math.IntN.{pos}
use Rattle.whole.specs.Tests.{◌and◌, ◌or◌, and_split, or_split}
use Rattle.whole.specs.Expr.{#}
use Rattle.whole.specs.Vec.{dot4ᴱ}
use Rattle.whole.specs.Solve.{solve, ◌≐◌, vec4s}
use Rattle.whole.specs.Order.{◌⋖◌}
use Rattle.whole.specs.Members.{◌∈◌, here, there, in_left, in_right, in_either, each_in, in_each}
use Rattle.scope.specs.Planes.{Plane, Point, at, equal}
use Rattle.scope.specs.Cells.{Inside, x-, x+, y-, y+, z-, z+, weight, box}
use Rattle.scope.specs.Section.{Way, along_x, against_x, along_y, against_y, along_z, against_z, start, rest, way, vertex_side, clip, clips, section}
use Rattle.theory.specs.Planes.Order.{equal_of}
use Rattle.theory.specs.Section.Emit.{clip_by_each}
use Rattle.theory.specs.Section.Plain.{clip_plain}

abbrev pub sides : List Plane
sides = x- ∷ x+ ∷ y- ∷ y+ ∷ z- ∷ z+ ∷ []

abbrev pub given : Way → List Plane → List Plane
given w hs = start w ++ (rest w ++ hs)

-- ---- a test that each plane of one list is in another

abbrev found : Plane → List Plane → Bool
found p [] = false
found p (q ∷ qs) = equal p q or found p qs

abbrev among : List Plane → List Plane → Bool
among [] qs = true
among (p ∷ ps) qs = found p qs and among ps qs

found_in : (p : Plane) (qs : List Plane) → T (found p qs) → p ∈ qs
found_in p [] t = absurd t
found_in p (q ∷ qs) t = or_split (equal p q) (found p qs) t (λ e. here (equal_of p q e)) (λ e. there (found_in p qs e))

among_in : (ps qs : List Plane) → T (among ps qs) → (p : Plane) → p ∈ ps → p ∈ qs
among_in [] qs t p x'' = elim x'' [ ]
among_in (q ∷ ps) qs t p (here e) = rw e (found_in q qs (and_split (found q qs) (among ps qs) t).0)
among_in (q ∷ ps) qs t p (there m) = among_in ps qs (and_split (found q qs) (among ps qs) t).1 p m

way_sides : (w : Way) → T (among (start w ++ rest w) sides)
unfolding equal
way_sides along_x = tt
way_sides against_x = tt
way_sides along_y = tt
way_sides against_y = tt
way_sides along_z = tt
way_sides against_z = tt

sides_way : (w : Way) → T (among sides (start w ++ rest w))
unfolding equal
sides_way along_x = tt
sides_way against_x = tt
sides_way along_y = tt
sides_way against_y = tt
sides_way along_z = tt
sides_way against_z = tt

-- ---- the given half-spaces

pub given_sides : (w : Way) (hs : List Plane) (p : Plane) → p ∈ given w hs → p ∈ (sides ++ hs)
given_sides w hs p m = go (in_either (start w ++ rest w) hs (rw (append_assoc (start w) (rest w) hs) m))
  where
    go : (p ∈ (start w ++ rest w)) ⊎ (p ∈ hs) → p ∈ (sides ++ hs)
    go (inl m) = in_left hs (among_in (start w ++ rest w) sides (way_sides w) p m)
    go (inr m) = in_right sides m

sides_given : (w : Way) (hs : List Plane) (p : Plane) → (p ∈ sides) ⊎ (p ∈ hs) → p ∈ given w hs
sides_given w hs p e = rw (append_assoc (start w) (rest w) hs) at (go e)
  where
    go : (p ∈ sides) ⊎ (p ∈ hs) → p ∈ ((start w ++ rest w) ++ hs)
    go (inl m) = in_left hs (among_in sides (start w ++ rest w) (sides_way w) p m)
    go (inr m) = in_right (start w ++ rest w) m

pub at_weight : (X : Point) → at weight X ≡ X.w
unfolding at
at_weight = solve (vec4s 1) (λ X. dot4ᴱ (record { x = # 0; y = # 0; z = # 0; w = # 1 }) X ≐ X.w) tt

module _ (w : Way) (hs : List Plane) {X : Point} where
  pub inside_given : Inside (hs ++ box) X → Inside (given w hs) X
  unfolding box
  inside_given i = record { each = λ h m. go h (in_either sides hs (given_sides w hs h m)) }
    where
      go : (h : Plane) → (h ∈ sides) ⊎ (h ∈ hs) → pos 0 ⋖ at h X
      go h (inl m) = i.each h (in_right hs (there m))
      go h (inr m) = i.each h (in_left (weight ∷ sides) m)

  pub given_inside : pos 0 ⋖ X.w → Inside (given w hs) X → Inside (hs ++ box) X
  unfolding box
  given_inside u i = record { each = λ h m. go h (in_either hs (weight ∷ sides) m) }
    where
      go : (h : Plane) → (h ∈ hs) ⊎ (h ∈ (weight ∷ sides)) → pos 0 ⋖ at h X
      go h (inl m) = i.each h (sides_given w hs h (inr m))
      go h (inr (here e)) = rw (e, at_weight X) u
      go h (inr (there m)) = i.each h (sides_given w hs h (inl m))

-- ---- each bound is given

clips_in : (s : Plane) (hs bs : List Plane) (b : Plane) → b ∈ clips s hs bs → b ∈ (bs ++ hs)
unfolding clips
clips_in s [] bs b m = in_left [] m
clips_in s (h ∷ hs) bs b m = go (in_either (clip s h bs) hs (clips_in s hs (clip s h bs) b m))
  where
    go : (b ∈ clip s h bs) ⊎ (b ∈ hs) → b ∈ (bs ++ h ∷ hs)
    go (inl m) = each_in (clip_by_each (vertex_side s h) h bs (in_right bs (here refl)) (in_each bs (λ b m. in_left (h ∷ hs) m))) b (rw (clip_plain s h bs) at m)
    go (inr m) = in_right bs (there m)

pub section_given : (s : Plane) (hs : List Plane) (b : Plane) → b ∈ section s hs → b ∈ given (way s) hs
unfolding section
section_given s hs b m = clips_in s (rest (way s) ++ hs) (start (way s)) b m
