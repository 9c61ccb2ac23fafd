-- The normal form: a cell that is not uniform is cut by a boundary plane; one form; it answers as the space; level forms mean level answers, and back.
use Rattle.std.specs.Prelude.{◌≡◌, refl, Bool, true, false, List, [], ◌∷◌, ◌++◌, ◌≢◌, ◌⊎◌, ◌↔◌, ℕ, pos}
use Rattle.std.proofs.Common.{sym, ap, subst, ◌∙◌, inl, inr, arith}
use Rattle.whole.specs.Order.{◌⋖◌, Lies, below, on, above, lies}
use Rattle.whole.specs.Members.{◌∈◌, here, there, in_left, in_right, in_either}
use Rattle.scope.proofs.Points.{front_false, front_true}
use Rattle.scope.specs.Planes.{Plane, Point, at, flip}
use Rattle.scope.specs.Cells.{Inside, box, Cuts, Off}
use Rattle.scope.specs.Solids.{Mark, IN, OUT, Tree, leaf, node, planes, walk, front, answer}
use Rattle.scope.specs.Normal.{Space, space, taking, Boundary, Uniform, First, Normal, uniform, split}
use Rattle.theory.specs.Cells.Move.{Between, between, flip_front}
use Rattle.theory.specs.Cells.Box.{box_origin, cons, tail}
use Rattle.theory.specs.Cells.Sides.{half_front, half_back}
use Rattle.theory.specs.Planes.Order.{same?, ordered, first, level, last}
use Rattle.theory.specs.Cells.Uniform.{Mixed}
use Rattle.theory.specs.Planes.General.{General, general_sub}
use Rattle.theory.specs.Cells.Clear.{Cleared, clear_on, clear_off, Stepped, step, keeps_inside, keeps_off, keeps_front, taking_same, taking_other}

-- ---- marks

pub mark? : (m n : Mark) → Dec (m ≡ n)
mark? IN IN = yes refl
mark? IN OUT = no (λ e. let z : ◌≡◌ {A = ℕ} 0 1 = cc in omega arith)
mark? OUT IN = no (λ e. let z : ◌≡◌ {A = ℕ} 0 1 = cc in omega arith)
mark? OUT OUT = yes refl

-- ---- boundary points

-- B.1: a point that makes p a boundary plane
pub record Border (S : Space) (p : Plane) (X : Point) : Type 0 where
  pub member : p ∈ S.list
  pub inside : Inside box X
  pub on : at p X ≡ pos 0
  pub others : (q : Plane) → q ∈ S.list → q ≢ p → at q X ≢ pos 0
  pub differ : S.mark (taking p true X) ≢ S.mark (taking p false X)

pub border_boundary : {S : Space} {p : Plane} {X : Point} → Border S p X → Boundary S p
border_boundary {X = X} b = record { member = b.member; point = X; inside = b.inside; on = b.on; others = b.others; differ = b.differ }

pub boundary_border : {S : Space} {p : Plane} (b : Boundary S p) → Border S p b.point
boundary_border b = record { member = b.member; inside = b.inside; on = b.on; others = b.others; differ = b.differ }

-- ---- a cell that is not uniform has a boundary point, so it is cut by a boundary plane

abbrev pub Within : List Plane → List Plane → Type 0
Within c d = (X : Point) → Inside c X → Inside d X

-- two points off r are on one side of it, or on two
data Sides (r : Plane) (Y Z : Point) : Type 0 where
  both_front : pos 0 ⋖ at r Y → pos 0 ⋖ at r Z → Sides r Y Z
  both_back : at r Y ⋖ pos 0 → at r Z ⋖ pos 0 → Sides r Y Z
  parted : Between r Y Z → (front Y r ≢ front Z r) → Sides r Y Z

differ_sides : (s t : Bool) → s ≡ true → t ≡ false → s ≢ t
differ_sides s t h k e = let z : ◌≡◌ {A = ℕ} 0 1 = cc in omega arith

sides : (r : Plane) (Y Z : Point) → at r Y ≢ pos 0 → at r Z ≢ pos 0 → Sides r Y Z
sides r Y Z h k = go (lies (at r Y)) (lies (at r Z))
  where
    go : Lies (at r Y) → Lies (at r Z) → Sides r Y Z
    go (below a) (below b) = both_back a b
    go (below a) (on b) = absurd (k b)
    go (below a) (above b) =
        let z = between r Z Y b a in
        parted (record { point = z.point; on_p = z.on_p; fore = λ q i j. z.fore q j i; aft = λ q i j. z.aft q j i })
        (λ e. differ_sides (front Z r) (front Y r) (front_true r Z b) (front_false r Y a) (sym e))
    go (on a) b = absurd (h a)
    go (above a) (below b) = parted (between r Y Z a b) (differ_sides (front Y r) (front Z r) (front_true r Y a) (front_false r Z b))
    go (above a) (on b) = absurd (k b)
    go (above a) (above b) = both_front a b

module _ (S : Space) (g : General S.list) (c : List Plane) (w : Within c box) where
  abbrev Found : Type 0
  Found = (p : Plane) × (X : Point) × Border S p X × Inside c X

  -- two points of the cell that only planes of qs part
  record Parted (qs : List Plane) (Y Z : Point) : Type 0 where
    y_in : Inside c Y
    z_in : Inside c Z
    y_off : Off S.list Y
    z_off : Off S.list Z
    only : (r : Plane) → r ∈ S.list → (r ∈ qs) ⊎ (front Y r ≡ front Z r)
    differ : S.mark (front Y) ≢ S.mark (front Z)

  -- on q alone, between Y and Z
  record Middle (q : Plane) (Y Z : Point) : Type 0 where
    point : Point
    in_c : Inside c point
    on_q : at q point ≡ pos 0
    others : (r : Plane) → r ∈ S.list → r ≢ q → at r point ≢ pos 0
    alike : (r : Plane) → r ∈ S.list → r ≢ q → front Y r ≡ front Z r → front point r ≡ front Y r

  module _ {qs : List Plane} {Y Z : Point} (u : Parted qs Y Z) where
    middle : {q : Plane} → q ∈ S.list → Between q Y Z → Middle q Y Z
    middle {q} m z = record {
      point = k.to;
      in_c = keeps_inside (λ h n. k.keeps h (in_left S.list n)) (record { each = λ h n. z.fore h (u.y_in.each h n) (u.z_in.each h n) });
      on_q = k.on_p;
      others = k.off;
      alike = λ r n d e. alike r n e (sides r Y Z (u.y_off.none r n) (u.z_off.none r n));
    }
      where
        k : Cleared q (c ++ S.list) S.list z.point
        k = clear_on q (c ++ S.list) S.list z.point z.on_p (λ r n d. g.apart q r m n (λ e. d (sym e)))

        alike : (r : Plane) → r ∈ S.list → front Y r ≡ front Z r → Sides r Y Z → front k.to r ≡ front Y r
        alike r n e (both_front h j) = front_true r k.to ((k.keeps r (in_right c n)).pos' (z.fore r h j)) ∙ sym (front_true r Y h)
        alike r n e (both_back h j) = front_false r k.to ((k.keeps r (in_right c n)).neg' (z.aft r h j)) ∙ sym (front_false r Y h)
        alike r n e (parted i d) = absurd (d e)

  -- the step off q from the middle, to the side s
  off_q : {q : Plane} {Y Z : Point} (s : Bool) → q ∈ S.list → (k : Middle q Y Z) → Stepped q s c S.list k.point
  off_q {q} s m k = step q s c S.list k.point (g.nonzero q m) k.on_q k.others

  off_mark : {q : Plane} {Y Z : Point} (s : Bool) (m : q ∈ S.list) (k : Middle q Y Z) → S.mark (front (off_q s m k).to) ≡ S.mark (taking q s k.point)
  off_mark s m k = S.local _ _ (off_q s m k).sides

  find_step : (q : Plane) (qs : List Plane) → q ∈ S.list → ((Y Z : Point) → Parted qs Y Z → Found) → (Y Z : Point) → Parted (q ∷ qs) Y Z → Found
  find_step q qs m rec Y Z u = go (sides q Y Z (u.y_off.none q m) (u.z_off.none q m))
    where
      alone : front Y q ≡ front Z q → Found
      alone e = rec Y Z (record { y_in = u.y_in; z_in = u.z_in; y_off = u.y_off; z_off = u.z_off; only = λ r n. drop r (u.only r n); differ = u.differ })
        where
          drop : (r : Plane) → (r ∈ (q ∷ qs)) ⊎ (front Y r ≡ front Z r) → (r ∈ qs) ⊎ (front Y r ≡ front Z r)
          drop r (inl (here d)) = inr (rw d e)
          drop r (inl (there n)) = inl n
          drop r (inr d) = inr d

      cross : Middle q Y Z → Found
      cross k = look (mark? (S.mark (taking q true k.point)) (S.mark (taking q false k.point)))
        where
          Y' : Stepped q (front Y q) c S.list k.point
          Y' = off_q (front Y q) m k

          Z' : Stepped q (front Z q) c S.list k.point
          Z' = off_q (front Z q) m k

          -- W is Y or Z
          near : (W : Point) (T : Stepped q (front W q) c S.list k.point) → ((r : Plane) → r ∈ S.list → r ≢ q → front Y r ≡ front Z r → front k.point r ≡ front W r)
              → (r : Plane) → r ∈ S.list → Dec (r ≡ q) → (r ∈ (q ∷ qs)) ⊎ (front Y r ≡ front Z r) → (r ∈ qs) ⊎ (front W r ≡ front T.to r)
          near W T a r n (yes e) o = inr (ap (front W) e ∙ sym (T.sides r n ∙ taking_same q (front W q) k.point r e))
          near W T a r n (no d) (inl (here e)) = absurd (d e)
          near W T a r n (no d) (inl (there i)) = inl i
          near W T a r n (no d) (inr e) = inr (sym (T.sides r n ∙ taking_other q (front W q) k.point r d ∙ a r n d e))

          back : {r : Plane} {a b : Bool} → (r ∈ qs) ⊎ (a ≡ b) → (r ∈ qs) ⊎ (b ≡ a)
          back (inl i) = inl i
          back (inr e) = inr (sym e)

          all_one : S.mark (taking q true k.point) ≡ S.mark (taking q false k.point) → (s t : Bool) → S.mark (taking q s k.point) ≡ S.mark (taking q t k.point)
          all_one e true true = refl
          all_one e true false = e
          all_one e false true = sym e
          all_one e false false = refl

          turn : S.mark (taking q true k.point) ≡ S.mark (taking q false k.point) → Dec (S.mark (front Y) ≡ S.mark (front Y'.to)) → Found
          turn e (no d) = rec Y Y'.to (record {
            y_in = u.y_in;
            z_in = keeps_inside Y'.keeps k.in_c;
            y_off = u.y_off;
            z_off = Y'.off;
            only = λ r n. near Y Y' k.alike r n (same? r q) (u.only r n);
            differ = d;
          })
          turn e (yes a) = rec Z'.to Z (record {
            y_in = keeps_inside Z'.keeps k.in_c;
            z_in = u.z_in;
            y_off = Z'.off;
            z_off = u.z_off;
            only = λ r n. back (near Z Z' (λ r n d e. k.alike r n d e ∙ e) r n (same? r q) (u.only r n));
            differ = λ b. u.differ (a ∙ off_mark (front Y q) m k ∙ all_one e (front Y q) (front Z q) ∙ sym (off_mark (front Z q) m k) ∙ b);
          })

          look : Dec (S.mark (taking q true k.point) ≡ S.mark (taking q false k.point)) → Found
          look (no d) = (q, k.point, record { member = m; inside = w k.point k.in_c; on = k.on_q; others = k.others; differ = d }, k.in_c)
          look (yes e) = turn e (mark? (S.mark (front Y)) (S.mark (front Y'.to)))

      go : Sides q Y Z → Found
      go (both_front h j) = alone (front_true q Y h ∙ sym (front_true q Z j))
      go (both_back h j) = alone (front_false q Y h ∙ sym (front_false q Z j))
      go (parted z d) = cross (middle u m z)

  find : (qs : List Plane) → ((q : Plane) → q ∈ qs → q ∈ S.list) → (Y Z : Point) → Parted qs Y Z → Found
  find [] s Y Z u = absurd (u.differ (S.local _ _ (λ r m. go r (u.only r m))))
    where
      go : (r : Plane) → (r ∈ []) ⊎ (front Y r ≡ front Z r) → front Y r ≡ front Z r
      go r (inl m) = elim m [ ]
      go r (inr e) = e
  find (q ∷ qs) s Y Z u = find_step q qs (s q (here refl)) (find qs (λ r m. s r (there m))) Y Z u

  -- two points of the cell, off the planes, with different marks: the cell has a boundary point
  pub mixed_border : Mixed S c → (p : Plane) × (X : Point) × Border S p X × Inside c X
  mixed_border u = find S.list (λ q m. m) u.y u.z (record { y_in = u.y_in; z_in = u.z_in; y_off = u.y_off; z_off = u.z_off; only = λ r m. inl m; differ = u.differ })

  pub boundary_cuts : Mixed S c → (p : Plane) × Boundary S p × Cuts p c
  boundary_cuts u = let f = mixed_border u in (f.0, border_boundary f.2, record { point = f.1; on = f.2.on; inside = f.3 })

first_one : {S : Space} {c : List Plane} {p q : Plane} → First S c p → First S c q → p ≡ q
first_one {p = p} {q = q} a b = elim (ordered p q) [ first h ↦ absurd (b.least p a.boundary a.cuts h.is) | level e ↦ e | last h ↦ absurd (a.least q b.boundary b.cuts h.is) ]

-- ---- one form

node≡ : {p q : Plane} {f f' b b' : Tree} → p ≡ q → f ≡ f' → b ≡ b' → node p f b ≡ node q f' b'
node≡ h k l = cc

pub normal_one : (S : Space) → General S.list → {c : List Plane} {X : Point} {r s : Tree} → Inside c X → Normal S c r → Normal S c s → r ≡ s
normal_one S g {c} {X} i (uniform a) (uniform b) =
    let y = clear_off c S.list X g.nonzero in
    let j = keeps_inside y.1 i in
    ap leaf (sym (a.all y.0 j y.2) ∙ b.all y.0 j y.2)
normal_one S g i (uniform {m = m} a) (split n t u v) = absurd (n m a)
normal_one S g i (split n t u v) (uniform {m = m} a) = absurd (n m a)
normal_one S g {c} i (split n t u v) (split {f = f} {b = b} n' t' u' v') =
    let e = first_one t t' in
    let z = g.nonzero _ t.boundary.member in
    node≡ e (normal_one S g (half_front z t.cuts).1 u (subst (λ q. Normal S (q ∷ c) f) (sym e) u'))
    (normal_one S g (half_back z t.cuts).1 v (subst (λ q. Normal S (flip q ∷ c) b) (sym e) v'))

-- ---- it answers as the space

pub normal_answers : (S : Space) → {c : List Plane} {X : Point} {r : Tree} → Inside c X → Off S.list X → Normal S c r → answer r X ≡ S.mark (front X)
unfolding walk
normal_answers S {X = X} i o (uniform a) = sym (a.all X i o)
normal_answers S {c} {X} i o (split {p = p} {f = f} {b = b} n t u v) = go (lies (at p X)) (λ h. normal_answers S (cons h i) o u) (λ h. normal_answers S (cons h i) o v)
  where
    go : Lies (at p X) → (pos 0 ⋖ at p X → answer f X ≡ S.mark (front X)) → (pos 0 ⋖ at (flip p) X → answer b X ≡ S.mark (front X)) → answer (node p f b) X ≡ S.mark (front X)
    go (below h) f'' b'' = rw (front_false p X h) (b'' (flip_front p X h))
    go (on h) f'' b'' = absurd (o.none p t.boundary.member h)
    go (above h) f'' b'' = rw (front_true p X h) (f'' h)

-- ---- its planes are boundary planes

pub normal_planes : (S : Space) → {c : List Plane} {r : Tree} → Normal S c r → (p : Plane) → p ∈ planes r → Boundary S p
normal_planes S (uniform a) p m = elim m [ ]
normal_planes S (split n t u v) p (here e) = subst (Boundary S) (sym e) t.boundary
normal_planes S (split {f = f} {b = b} n t u v) p (there m) = go (in_either (planes f) (planes b) m)
    (normal_planes S u p) (normal_planes S v p)
  where
    go : (p ∈ planes f) ⊎ (p ∈ planes b) → (p ∈ planes f → Boundary S p) → (p ∈ planes b → Boundary S p) → Boundary S p
    go (inl m) h k = h m
    go (inr m) h k = k m

-- ---- two solids that answer alike have the same form

pub record Alike (S S' : Space) : Type 0 where
  pub alike : (X : Point) → Inside box X → Off S.list X → Off S'.list X → S.mark (front X) ≡ S'.mark (front X)

member? : (p : Plane) (qs : List Plane) → Dec (p ∈ qs)
member? p [] = no (λ m. elim m [ ])
member? p (q ∷ qs) = go (same? p q) (member? p qs)
  where
    go : Dec (p ≡ q) → Dec (p ∈ qs) → Dec (p ∈ (q ∷ qs))
    go (yes e) k = yes (here e)
    go (no d) (yes m) = yes (there m)
    go (no d) (no n) = no (λ m. elim m [ here e ↦ d e | there m ↦ n m ])

module _ (S S' : Space) (g : General (S.list ++ S'.list)) (a : Alike S S') where
  module _ {p : Plane} (b : Boundary S p) where
    -- the witness, still on p, off all other planes of both
    k : Cleared p (box ++ S.list) (S.list ++ S'.list) b.point
    k = clear_on p (box ++ S.list) (S.list ++ S'.list) b.point b.on (λ q m d. g.apart p q (in_left S'.list b.member) m (λ e. d (sym e)))

    kept : (s : Bool) (q : Plane) → q ∈ S.list → taking p s k.to q ≡ taking p s b.point q
    kept s q m = go (same? q p)
      where
        go : Dec (q ≡ p) → taking p s k.to q ≡ taking p s b.point q
        go (yes e) = taking_same p s k.to q e ∙ sym (taking_same p s b.point q e)
        go (no d) = taking_other p s k.to q d ∙ keeps_front (k.keeps q (in_right box m)) (b.others q m d) ∙ sym (taking_other p s b.point q d)

    -- a step off to the side s: the second space has there the first one's mark
    carried : (s : Bool) → S'.mark (taking p s k.to) ≡ S.mark (taking p s b.point)
    carried s =
        let y = step p s box (S.list ++ S'.list) k.to (g.nonzero p (in_left S'.list b.member)) k.on_p k.off in
        let i = keeps_inside y.keeps (keeps_inside (λ h m. k.keeps h (in_left S.list m)) b.inside) in
        sym (S'.local _ _ (λ q m. y.sides q (in_right S.list m)))
        ∙ sym (a.alike y.to i (record { none = λ q m. y.off.none q (in_left S'.list m) }) (record { none = λ q m. y.off.none q (in_right S.list m) }))
        ∙ S.local _ _ (λ q m. y.sides q (in_left S'.list m) ∙ kept s q m)

    still : S'.mark (taking p true k.to) ≢ S'.mark (taking p false k.to)
    still e = b.differ (sym (carried true) ∙ e ∙ carried false)

    pub boundary_same : Boundary S' p
    boundary_same = record {
      member = go (member? p S'.list);
      point = k.to;
      inside = keeps_inside (λ h m. k.keeps h (in_left S.list m)) b.inside;
      on = k.on_p;
      others = λ q m. k.off q (in_right S.list m);
      differ = still;
    }
      where
        go : Dec (p ∈ S'.list) → p ∈ S'.list
        go (yes m) = m
        go (no n) = absurd (still (S'.local _ _ (λ q m.
            let d : q ≢ p = λ e. n (subst (λ t. t ∈ S'.list) e m) in
            taking_other p true k.to q d ∙ sym (taking_other p false k.to q d))))

  pub uniform_same : {c : List Plane} {m : Mark} → Within c box → Uniform S c m → Uniform S' c m
  uniform_same {c} {m} w u = record { all = all }
    where
      all : (X : Point) → Inside c X → Off S'.list X → S'.mark (front X) ≡ m
      all X i o =
          let y = clear_off (c ++ S'.list) S.list X (λ q n. g.nonzero q (in_left S'.list n)) in
          let j = keeps_inside (λ h n. y.1 h (in_left S'.list n)) i in
          let z : Off S'.list y.0 = record { none = λ q n. keeps_off (y.1 q (in_right c n)) (o.none q n) } in
          S'.local _ _ (λ q n. sym (keeps_front (y.1 q (in_right c n)) (o.none q n))) ∙ sym (a.alike y.0 (w y.0 j) y.2 z) ∙ u.all y.0 j y.2

swap : (ps qs : List Plane) (p : Plane) → p ∈ (ps ++ qs) → p ∈ (qs ++ ps)
swap ps qs p m = elim (in_either ps qs m) [ inl n ↦ in_right qs n | inr n ↦ in_left ps n ]

alike_swap : {S S' : Space} → Alike S S' → Alike S' S
alike_swap a = record { alike = λ X i y z. sym (a.alike X i z y) }

pub normal_same : (S S' : Space) → General (S.list ++ S'.list) → Alike S S' → {c : List Plane} {r : Tree} → Within c box → Normal S c r → Normal S' c r
normal_same S S' g a w (uniform u) = uniform (uniform_same S S' g a w u)
normal_same S S' g a w (split n t u v) =
    let g' = general_sub (S.list ++ S'.list) (S'.list ++ S.list) g (swap S'.list S.list) in
    let a' = alike_swap a in
    split (λ m k. n m (uniform_same S' S g' a' w k))
    (record { boundary = boundary_same S S' g a t.boundary; cuts = t.cuts; least = λ q b k. t.least q (boundary_same S' S g' a' b) k })
    (normal_same S S' g a (λ X i. w X (tail i)) u) (normal_same S S' g a (λ X i. w X (tail i)) v)

-- two solids have one form exactly if no point strictly inside the box, off the planes of both, has different answers
pub same_form : (S S' : Space) → General (S.list ++ S'.list) → {r r' : Tree} → Normal S box r → Normal S' box r' → (r ≡ r') ↔ Alike S S'
same_form S S' g {r} {r'} n n' = (
  λ e. record { alike = λ X i y z. sym (normal_answers S i y n) ∙ ap (λ t. answer t X) e ∙ normal_answers S' i z n' },
  λ a. normal_one S' (general_sub (S.list ++ S'.list) S'.list g (λ q. in_right S.list)) box_origin (normal_same S S' g a (λ X i. i) n) n',
)

-- every boundary plane is a plane of the form
pub normal_uses : (S : Space) → General S.list → {r : Tree} → Normal S box r → (p : Plane) → Boundary S p → p ∈ planes r
normal_uses S g {r} n p b = (boundary_same S (space r) (general_sub S.list (S.list ++ planes r) g below')
    (record { alike = λ X i y z. sym (normal_answers S i y n) }) b).member
  where
    below' : (q : Plane) → q ∈ (S.list ++ planes r) → q ∈ S.list
    below' q m = elim (in_either S.list (planes r) m) [ inl k ↦ k | inr k ↦ (normal_planes S n q k).member ]
