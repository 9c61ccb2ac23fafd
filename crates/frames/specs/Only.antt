-- No second answer fits a promise: two answers of the same call are equal, and so are the tables and texts that they leave. Document 01, "What the promises say".
use Rattle.std.specs.Prelude.{◌≡◌, refl, List, [], ◌∷◌, ℕ, ℤ, drop, Result, Ok, Err}
use Rattle.std.proofs.Common.{sym, ap, ap₂, ◌∙◌}
use Rattle.whole.specs.Tests.{differ}
use Rattle.scope.specs.Text.{Frame, bad, head, frames}
use Rattle.frames.specs.Promises.{Refuses, missing, malformed, not_due, Follows, bad_follows, more_follows, IsHead, is_head, IsPlane, is_plane, IsNode, is_node, IsEnd, is_end, IsOperation, is_operation, Reads, HeadTold, OperationTold, EndTold, PlaneTold, NodeTold, AfterTold, Wrote}
use Rattle.frames.specs.declared.Cursor.{Cursor}
use Rattle.frames.specs.declared.Head.{Head}

-- ---- refusals

module _ {wanted : Frame → Type 0} {fs : List Frame} where
  -- a refusal has one number
  pub refuses_unique : {m n : ℕ} → Refuses wanted fs m → Refuses wanted fs n → m ≡ n
  refuses_unique (missing e) (missing f) = refl
  refuses_unique (missing e) (malformed f) = differ (cc)
  refuses_unique (missing e) (not_due f h k) = refl
  refuses_unique (malformed e) (missing f) = differ (cc)
  refuses_unique (malformed e) (malformed f) = refl
  refuses_unique (malformed e) (not_due f h k) = absurd (h (cc))
  refuses_unique (not_due e h k) (missing f) = refl
  refuses_unique (not_due e h k) (malformed f) = absurd (h (cc))
  refuses_unique (not_due e h k) (not_due f i j) = refl

  -- and there is none where the frame that is wanted stands first
  pub refuses_never : {f : Frame} {gs : List Frame} {n : ℕ} → ¬ wanted bad → fs ≡ f ∷ gs → wanted f → Refuses wanted fs n → ⊥
  refuses_never b e w (missing g) = differ (cc)
  refuses_never {f} b e w (malformed g) = let q : f ≡ bad = cc in b (rw q at w)
  refuses_never {f} b e w (not_due {f = h} g i k) = let q : f ≡ h = cc in k (rw q at w)

no_head : ¬ IsHead bad
no_head h = elim h [ ]

no_plane : ¬ IsPlane bad
no_plane h = elim h [ ]

no_node : ¬ IsNode bad
no_node h = elim h [ ]

no_end : ¬ IsEnd bad
no_end h = elim h [ ]

no_operation : ¬ IsOperation bad
no_operation h = elim h [ ]

-- ---- the answers

module _ {t : List ℕ} {at size : ℕ} where
  place_unique : {f g : Frame} {c d : Cursor} → Reads t at f size c.at → Reads t at g size d.at → c ≡ d
  place_unique {c = c} {d = d} h k = ap (λ (n : ℕ). record { at = n }) (h.place ∙ sym k.place)

head_same : {h k : Head} → head h.planes h.nodes h.root ≡ head k.planes k.nodes k.root → h ≡ k
head_same {h} {k} e =
    let p : h.planes ≡ k.planes = cc in
    let n : h.nodes ≡ k.nodes = cc in
    let r : h.root ≡ k.root = cc in
    λ i. record { planes = p i; nodes = n i; root = r i }

module _ (t : List ℕ) (at : ℕ) where
  pub head_unique : (r s : Result (Head × Cursor) ℕ) → HeadTold t at r → HeadTold t at s → r ≡ s
  head_unique (Ok (h, c)) (Ok (k, d)) i j = ap₂ (λ x y. Ok (x, y)) (head_same (cc (i.first, j.first))) (place_unique i j)
  head_unique (Ok (h, c)) (Err e) i j = absurd (refuses_never no_head i.first is_head j)
  head_unique (Err e) (Ok (k, d)) i j = absurd (refuses_never no_head j.first is_head i)
  head_unique (Err e) (Err f) i j = ap Err (refuses_unique i j)

  pub operation_unique : (r s : Result (ℕ × Cursor) ℕ) → OperationTold t at r → OperationTold t at s → r ≡ s
  operation_unique (Ok (o, c)) (Ok (p, d)) i j = ap₂ (λ x y. Ok (x, y)) (cc (i.first, j.first)) (place_unique i j)
  operation_unique (Ok (o, c)) (Err e) i j = absurd (refuses_never no_operation i.first is_operation j)
  operation_unique (Err e) (Ok (p, d)) i j = absurd (refuses_never no_operation j.first is_operation i)
  operation_unique (Err e) (Err f) i j = ap Err (refuses_unique i j)

  pub end_unique : (r s : Result Cursor ℕ) → EndTold t at r → EndTold t at s → r ≡ s
  end_unique (Ok c) (Ok d) i j = ap Ok (place_unique i j)
  end_unique (Ok c) (Err e) i j = absurd (refuses_never no_end i.first is_end j)
  end_unique (Err e) (Ok d) i j = absurd (refuses_never no_end j.first is_end i)
  end_unique (Err e) (Err f) i j = ap Err (refuses_unique i j)

  module _ (row : ℕ) where
    pub plane_unique : (ps ps' ps'' : List ℤ) (r s : Result Cursor ℕ) → PlaneTold t at row ps ps' r → PlaneTold t at row ps ps'' s → (r ≡ s) × (ps' ≡ ps'')
    plane_unique ps ps' ps'' (Ok c) (Ok d) i j = (ap Ok (place_unique i.reads j.reads), cc (i.reads.first, j.reads.first, i.table, j.table))
    plane_unique ps ps' ps'' (Ok c) (Err e) i j = absurd (refuses_never no_plane i.reads.first is_plane j.refuses)
    plane_unique ps ps' ps'' (Err e) (Ok d) i j = absurd (refuses_never no_plane j.reads.first is_plane i.refuses)
    plane_unique ps ps' ps'' (Err e) (Err f) i j = (ap Err (refuses_unique i.refuses j.refuses), i.table ∙ sym j.table)

    pub node_unique : (ns ns' ns'' : List ℕ) (r s : Result Cursor ℕ) → NodeTold t at row ns ns' r → NodeTold t at row ns ns'' s → (r ≡ s) × (ns' ≡ ns'')
    node_unique ns ns' ns'' (Ok c) (Ok d) i j = (ap Ok (place_unique i.reads j.reads), cc (i.reads.first, j.reads.first, i.table, j.table))
    node_unique ns ns' ns'' (Ok c) (Err e) i j = absurd (refuses_never no_node i.reads.first is_node j.refuses)
    node_unique ns ns' ns'' (Err e) (Ok d) i j = absurd (refuses_never no_node j.reads.first is_node i.refuses)
    node_unique ns ns' ns'' (Err e) (Err f) i j = (ap Err (refuses_unique i.refuses j.refuses), i.table ∙ sym j.table)

  follows_unique : {m n : ℕ} → Follows (frames (drop at t)) m → Follows (frames (drop at t)) n → m ≡ n
  follows_unique (bad_follows e) (bad_follows f) = refl
  follows_unique (bad_follows e) (more_follows f h) = absurd (h (cc))
  follows_unique (more_follows e h) (bad_follows f) = absurd (h (cc))
  follows_unique (more_follows e h) (more_follows f k) = refl

  follows_never : {n : ℕ} → frames (drop at t) ≡ [] → Follows (frames (drop at t)) n → ⊥
  follows_never e (bad_follows f) = differ (cc)
  follows_never e (more_follows f h) = differ (cc)

  pub after_unique : (r s : Result (Unit {0}) ℕ) → AfterTold t at r → AfterTold t at s → r ≡ s
  after_unique (Ok u) (Ok v) i j = refl
  after_unique (Ok u) (Err e) i j = absurd (follows_never i j)
  after_unique (Err e) (Ok u) i j = absurd (follows_never j i)
  after_unique (Err e) (Err f) i j = ap Err (follows_unique i j)

-- ---- writing

pub wrote_unique : {t t' t'' l : List ℕ} {at size next next' : ℕ} → Wrote t t' at l size next → Wrote t t'' at l size next' → (t' ≡ t'') × (next ≡ next')
wrote_unique h k = (h.text ∙ sym k.text, h.place ∙ sym k.place)
