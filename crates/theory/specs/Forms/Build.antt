-- There is a normal form: where cuts, uniform cells and boundary planes can be told, it is made along the ascending list of the boundary planes.
use Rattle.std.specs.Prelude.{refl, List, [], ◌∷◌, ◌≢◌, ◌⊎◌}
use Rattle.std.proofs.Common.{sym, ap, subst, ◌∙◌, inl, inr}
use Rattle.whole.specs.Members.{◌∈◌, here, there}
use Rattle.scope.specs.Planes.{Plane, Point, flip}
use Rattle.scope.specs.Cells.{Inside, box, Cuts}
use Rattle.scope.specs.Solids.{Mark, Tree, leaf, node}
use Rattle.scope.specs.Normal.{Space, Boundary, Uniform, First, Normal, uniform, split}
use Rattle.theory.specs.Cells.Reached.{Cell, whole, ahead, behind, Decider}
use Rattle.theory.specs.Planes.Order.{Before, before_irrefl, before_asym}
use Rattle.theory.specs.Cells.Box.{origin, box_origin, tail}
use Rattle.theory.specs.Cells.Sides.{cuts_new, cuts_new_back, half_front, half_back}
use Rattle.theory.specs.Cells.Uniform.{Mixed}
use Rattle.theory.specs.Planes.Lists.{Ascending, empty, next}
use Rattle.theory.specs.Planes.General.{General}
use Rattle.theory.specs.Forms.Normal.{Within, boundary_cuts}

-- ---- the form, along a list

-- the cell's form by the planes of the list: each either cuts, or is passed over
pub data Shaped (S : Space) : List Plane → List Plane → Tree → Type 0 where
  mark : {ps c : List Plane} {m : Mark} → Uniform S c m → Shaped S ps c (leaf m)
  cut : {p : Plane} {ps c : List Plane} {f b : Tree} → Mixed S c → Cuts p c → Shaped S ps (p ∷ c) f → Shaped S ps (flip p ∷ c) b → Shaped S (p ∷ ps) c (node p f b)
  pass : {p : Plane} {ps c : List Plane} {r : Tree} → Mixed S c → ¬ Cuts p c → Shaped S ps c r → Shaped S (p ∷ ps) c r

-- of the boundary planes none but those of the rest cut the cell
pub record Rest (S : Space) (c rest : List Plane) : Type 0 where
  pub order : Ascending rest
  pub are : (q : Plane) → q ∈ rest → Boundary S q
  pub all : (q : Plane) → Boundary S q → Cuts q c → q ∈ rest

drop : {p q : Plane} {ps : List Plane} → q ∈ (p ∷ ps) → q ≢ p → q ∈ ps
drop (here e) d = absurd (d e)
drop (there m) d = m

up : {c : List Plane} {h q : Plane} → Cuts q (h ∷ c) → Cuts q c
up k = record { point = k.point; on = k.on; inside = tail k.inside }

module _ {S : Space} {c : List Plane} {p : Plane} {ps : List Plane} (t : Rest S c (p ∷ ps)) where
  after : Ascending ps
  after = elim t.order [ next h a ↦ a ]

  rest_front : Rest S (p ∷ c) ps
  rest_front = record { order = after; are = λ q m. t.are q (there m); all = λ q f k. drop (t.all q f (up k)) (λ e. cuts_new k (here e)) }

  rest_back : Rest S (flip p ∷ c) ps
  rest_back = record { order = after; are = λ q m. t.are q (there m); all = λ q f k. drop (t.all q f (up k)) (λ e. cuts_new_back k (here (ap flip e))) }

  rest_pass : ¬ Cuts p c → Rest S c ps
  rest_pass n = record { order = after; are = λ q m. t.are q (there m); all = λ q f k. drop (t.all q f k) (λ e. n (subst (λ r. Cuts r c) e k)) }

  rest_first : Cuts p c → First S c p
  rest_first k = record { boundary = t.are p (here refl); cuts = k; least = λ q f j l. least q t.order (t.all q f j) (record { is = l }) }
    where
      least : (q : Plane) → Ascending (p ∷ ps) → q ∈ (p ∷ ps) → Before q p → ⊥
      least q a (here e) l = before_irrefl l e
      least q (next h a) (there m) l = before_asym (h q m) l

not_uniform : {S : Space} {c : List Plane} → Mixed S c → (m : Mark) → ¬ Uniform S c m
not_uniform u m v = u.differ (v.all u.y u.y_in u.y_off ∙ sym (v.all u.z u.z_in u.z_off))

-- it is the normal form
pub shaped_normal : (S : Space) {rest c : List Plane} {r : Tree} → Rest S c rest → Shaped S rest c r → Normal S c r
shaped_normal S t (mark u) = uniform u
shaped_normal S t (cut u k f b) = split (not_uniform u) (rest_first t k) (shaped_normal S (rest_front t) f) (shaped_normal S (rest_back t) b)
shaped_normal S t (pass u n r) = shaped_normal S (rest_pass t n) r

module _ (S : Space) (g : General S.list) (Ok : Plane → Type 0) (ok : (p : Plane) → p ∈ S.list → Ok p) (cuts? : Decider Ok)
    (uniform? : (c : List Plane) (X : Point) → Cell Ok c → Inside c X → ((m : Mark) × Uniform S c m) ⊎ Mixed S c) where
  pub shaped_some : (rest c : List Plane) (X : Point) → Rest S c rest → Cell Ok c → Inside c X → Within c box → (r : Tree) × Shaped S rest c r
  shaped_some [] c X t e i w = go (uniform? c X e i)
    where
      go : ((m : Mark) × Uniform S c m) ⊎ Mixed S c → (r : Tree) × Shaped S [] c r
      go (inl u) = (leaf u.0, mark u.1)
      go (inr u) = let f = boundary_cuts S g c w u in absurd (elim (t.all f.0 f.1 f.2) [ ])
  shaped_some (p ∷ ps) c X t e i w = go (uniform? c X e i) (cuts? p okay c e) (shaped_some ps)
    where
      okay : Ok p
      okay = ok p (t.are p (here refl)).member

      go : ((m : Mark) × Uniform S c m) ⊎ Mixed S c → Dec (Cuts p c) → ((d : List Plane) (Y : Point) → Rest S d ps → Cell Ok d → Inside d Y → Within d box → (r : Tree) × Shaped S ps d r)
          → (r : Tree) × Shaped S (p ∷ ps) c r
      go (inl u) k rec = (leaf u.0, mark u.1)
      go (inr u) (no n) rec = let r = rec c X (rest_pass t n) e i w in (r.0, pass u n r.1)
      go (inr u) (yes k) rec =
          let z = g.nonzero p (t.are p (here refl)).member in
          let y = half_front z k in
          let y' = half_back z k in
          let f = rec (p ∷ c) y.0 (rest_front t) (ahead okay e) y.1 (λ Y j. w Y (tail j)) in
          let b = rec (flip p ∷ c) y'.0 (rest_back t) (behind okay e) y'.1 (λ Y j. w Y (tail j)) in
          (node p f.0 b.0, cut u k f.1 b.1)

  -- bs lists the boundary planes in order
  pub form_some : (bs : List Plane) → Ascending bs → ((q : Plane) → q ∈ bs → Boundary S q) → ((q : Plane) → Boundary S q → q ∈ bs) → (r : Tree) × Normal S box r
  form_some bs a b t =
      let u : Rest S box bs = record { order = a; are = b; all = λ q f k. t q f } in
      let r = shaped_some bs box origin u whole box_origin (λ X i. i) in
      (r.0, shaped_normal S u r.1)

-- the boundary planes, from an ascending list of the solid's planes
module _ (S : Space) (boundary? : (p : Plane) → p ∈ S.list → Dec (Boundary S p)) where
  pub record Listed (ps bs : List Plane) : Type 0 where
    pub order : Ascending bs
    pub from : (q : Plane) → q ∈ bs → (q ∈ ps) × Boundary S q
    pub all : (q : Plane) → q ∈ ps → Boundary S q → q ∈ bs

  pub listed : (ps : List Plane) → Ascending ps → ((p : Plane) → p ∈ ps → p ∈ S.list) → (bs : List Plane) × Listed ps bs
  listed [] a s = ([], record { order = empty; from = λ q m. elim m [ ]; all = λ q m. elim m [ ] })
  listed (p ∷ ps) (next h a) s = go (boundary? p (s p (here refl))) (listed ps a (λ q m. s q (there m)))
    where
      go : Dec (Boundary S p) → (bs : List Plane) × Listed ps bs → (bs : List Plane) × Listed (p ∷ ps) bs
      go (yes b) l = (p ∷ l.0, record { order = next (λ q m. h q (l.1.from q m).0) l.1.order; from = from; all = all })
        where
          from : (q : Plane) → q ∈ (p ∷ l.0) → (q ∈ (p ∷ ps)) × Boundary S q
          from q (here e) = (here e, subst (Boundary S) (sym e) b)
          from q (there m) = let t = l.1.from q m in (there t.0, t.1)

          all : (q : Plane) → q ∈ (p ∷ ps) → Boundary S q → q ∈ (p ∷ l.0)
          all q (here e) f = here e
          all q (there m) f = there (l.1.all q m f)
      go (no n) l = (l.0, record { order = l.1.order; from = λ q m. let t = l.1.from q m in (there t.0, t.1); all = all })
        where
          all : (q : Plane) → q ∈ (p ∷ ps) → Boundary S q → q ∈ l.0
          all q (here e) f = absurd (n (subst (Boundary S) e f))
          all q (there m) f = l.1.all q m f
