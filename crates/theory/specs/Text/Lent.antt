-- Tables lent directly: rows one after the other, judged as if written out and read.
--     lent, Flat                      tables lent as flat tables, and the rows of tables, one after the other
--     lent_accepted, lent_taken       lent tables are taken exactly if they are those of lawful tables
--     lent_as_text, lent_as_read      tables that can be written get the verdict of their text
--     lent_frames, lent_refused, refused_lent   lent tables that are refused: the rule that their first bad line breaks
use Rattle.std.specs.Prelude.{◌≡◌, refl, ◌⊎◌, ◌≢◌, ℕ, ◌/◌, ◌≤◌, ◌<◌, leb, T, ℤ, Bool, not}
use Rattle.std.proofs.Math.Path.{sym, ap}
use Rattle.std.proofs.Common.{◌∙◌, inl, inr, arith, le_refl, le→leb, leb→le}
use mathlib.Core.List.{List, [], ◌∷◌}
use Rattle.std.proofs.Math.Dec.{nleb→lt}
use Rattle.std.proofs.Math.ListN.{length}
use Rattle.std.proofs.Math.Bool.{true, false}
use Rattle.whole.specs.Tests.{differ, le_true, and_make}
use Rattle.whole.specs.Lists.{Each.none}
use Rattle.scope.specs.Limits.{most_text}
use Rattle.scope.specs.Planes.{Plane}
use Rattle.scope.specs.Solids.{Entry, entry, Tables, tables}
use Rattle.scope.specs.Text.{Frame, other, head, plane, node_row, end, plane_frames, node_frames, solid_frames, text, written}
use Rattle.scope.specs.Judging.{Rooms, fresh, Reading, read, refused, read_solid, accepted, refusal, finish, judge, plane_table, node_table, Lent, judge_lent}
use Rattle.scope.specs.Answers.{Answer, solid_then, flat_planes, flat_nodes}
use Rattle.theory.specs.Text.Filled.{planes_count, nodes_count}
use Rattle.theory.specs.Text.Frames.{frames_written}
use Rattle.theory.specs.Text.Trees.{LawfulTables}
use Rattle.theory.specs.Text.Sizes.{Writable, solid_fits, solid_length}
use Rattle.theory.specs.Text.Judge.{Roomy, solid_read, solid_reads, finish_accepted}
use Rattle.theory.specs.Text.Refusals.{RefusedAt, solid_refused, refused_solid, bad_line, too_long, refused_judge}
use Rattle.theory.specs.Text.Rules.{over}
use Rattle.theory.specs.Text.Reached.{none_yet}

-- ---- rows, one after the other

abbrev pub lent : List ℤ → List ℕ → ℕ → Lent
lent xs ns r = record { planes = xs; nodes = ns; root = r }

-- xs and ns are the rows of planes and of nodes, and r is the root code
pub record FlatParts (ps : List Plane) (es : List Entry) (u : ℕ) (xs : List ℤ) (ns : List ℕ) (r : ℕ) : Type 0 where
  pub planes : xs ≡ flat_planes ps
  pub nodes : ns ≡ flat_nodes es
  pub root : r ≡ u

abbrev pub Flat : Tables → List ℤ → List ℕ → ℕ → Type 0
Flat (tables ps es u) xs ns r = FlatParts ps es u xs ns r

planes_table : (ps : List Plane) (fs : List Frame) → plane_table (flat_planes ps) fs ≡ plane_frames ps fs
unfolding flat_planes plane_table
planes_table [] fs = refl
planes_table (p ∷ ps) fs = ap (λ i. plane p ∷ i) (planes_table ps fs)

nodes_table : (es : List Entry) (fs : List Frame) → node_table (flat_nodes es) fs ≡ node_frames es fs
unfolding flat_nodes node_table
nodes_table [] fs = refl
nodes_table (entry n f b ∷ es) fs = ap (λ i. node_row (entry n f b) ∷ i) (nodes_table es fs)

-- ---- the frames of lent tables

-- the rooms and the frames by which lent tables are judged
abbrev pub lent_rooms : List ℤ → List ℕ → Rooms
lent_rooms xs ns = record { plane_rows = length xs / 4; node_rows = length ns / 3 }

abbrev pub lent_frames : List ℤ → List ℕ → ℕ → List Frame
lent_frames xs ns r = head (length xs / 4) (length ns / 3) r ∷ plane_table xs (node_table ns (end ∷ []))

module _ (ps : List Plane) (es : List Entry) where
  planes_rows : length (flat_planes ps) / 4 ≡ length ps
  planes_rows = omega (arith, planes_count ps)

  nodes_rows : length (flat_nodes es) / 3 ≡ length es
  nodes_rows = omega (arith, nodes_count es)

  -- rooms as large as the tables
  abbrev pub own_rooms : Rooms
  own_rooms = record { plane_rows = length ps; node_rows = length es }

  rooms_own : lent_rooms (flat_planes ps) (flat_nodes es) ≡ own_rooms
  rooms_own = λ i. record { plane_rows = planes_rows i; node_rows = nodes_rows i }

  frames_flat : (r : ℕ) → lent_frames (flat_planes ps) (flat_nodes es) r ≡ solid_frames (tables ps es r) []
  unfolding solid_frames
  frames_flat r = λ i. head (planes_rows i) (nodes_rows i) r ∷ (planes_table ps (node_table (flat_nodes es) (end ∷ [])) ∙ ap (plane_frames ps) (nodes_table es (end ∷ []))) i

  -- whole rows are judged by the frames of their tables
  lent_whole : (r : ℕ) → judge_lent (lent (flat_planes ps) (flat_nodes es) r) ≡ finish (read_solid own_rooms fresh 1 (solid_frames (tables ps es r) []))
  unfolding judge_lent
  lent_whole r = λ i. finish (read_solid (rooms_own i) fresh 1 (frames_flat r i))

  -- the rows of lawful tables are taken as those tables
  pub lent_accepted : (r : ℕ) → LawfulTables (tables ps es r) → judge_lent (lent (flat_planes ps) (flat_nodes es) r) ≡ accepted (tables ps es r)
  lent_accepted r h = lent_whole r ∙ ap finish (solid_reads own_rooms (tables ps es r) 1 [] h room)
    where
      room : Roomy own_rooms (tables ps es r)
      room = and_make (leb (length ps) (length ps)) (leb (length es) (length es)) (le→leb (length ps) (length ps) (le_refl (length ps))) (le→leb (length es) (length es) (le_refl (length es)))

  -- as if written out and read
  pub lent_as_text : (r : ℕ) → Writable (tables ps es r) → length (text (tables ps es r)) ≤ most_text → judge_lent (lent (flat_planes ps) (flat_nodes es) r) ≡ judge own_rooms (text (tables ps es r))
  unfolding judge text
  lent_as_text r w h = lent_whole r ∙ sym (rw (le_true (length (text (tables ps es r))) most_text h) (ap (λ i. finish (read_solid own_rooms fresh 1 i)) (frames_written (solid_fits (tables ps es r) [] w none))))

  -- a text that is too long has too many planes or nodes, and so have the tables
  lent_too_long : (r : ℕ) → most_text < length (text (tables ps es r)) → judge_lent (lent (flat_planes ps) (flat_nodes es) r) ≡ refusal 3 1
  unfolding solid_frames text written
  lent_too_long r h = lent_whole r ∙ ap finish (refused_solid {n = 3} {l = 1} (record { good = []; rest = solid_frames (tables ps es r) []; state = fresh; parts = refl; passed = none_yet; line = refl; fails = bad_line (over (λ i j. omega (arith, solid_length ps es r []))) }))

  -- so a call answers for lent tables as for their text, whatever its length
  pub lent_as_read : {A : Type 0} (r : ℕ) (k : Tables → Answer A) → Writable (tables ps es r) → solid_then (judge_lent (lent (flat_planes ps) (flat_nodes es) r)) k ≡ solid_then (judge own_rooms (text (tables ps es r))) k
  unfolding judge
  lent_as_read r k w = by (leb (length (text (tables ps es r))) most_text) (leb→le (length (text (tables ps es r))) most_text) (nleb→lt (length (text (tables ps es r))) most_text)
    where
      by : (b : Bool) → (T b → length (text (tables ps es r)) ≤ most_text) → (T (not b) → most_text < length (text (tables ps es r))) → solid_then (judge_lent (lent (flat_planes ps) (flat_nodes es) r)) k ≡ solid_then (judge own_rooms (text (tables ps es r))) k
      by true f g = ap (λ v. solid_then v k) (lent_as_text r w (f tt))
      by false f g =
          let h = g tt in
          ap (λ v. solid_then v k) (lent_too_long r h) ∙ ap (λ v. solid_then v k) (sym (refused_judge own_rooms (text (tables ps es r)) 3 0 (too_long h)))

-- ---- and back: frames that are a solid's come from its rows

planes_back : (xs : List ℤ) (ps : List Plane) (fs gs : List Frame) → length xs / 4 ≡ length ps → plane_table xs fs ≡ plane_frames ps gs → ((xs ≡ flat_planes ps) × (fs ≡ gs)) ⊎ (other ∷ fs ≡ gs)
unfolding plane_table flat_planes
planes_back [] [] fs gs l e = inl (refl, e)
planes_back [] (p ∷ ps) fs gs l e = absurd (omega arith)
planes_back (a ∷ []) [] fs gs l e = inr e
planes_back (a ∷ []) (p ∷ ps) fs gs l e = differ (cc)
planes_back (a ∷ b ∷ []) [] fs gs l e = inr e
planes_back (a ∷ b ∷ []) (p ∷ ps) fs gs l e = differ (cc)
planes_back (a ∷ b ∷ c ∷ []) [] fs gs l e = inr e
planes_back (a ∷ b ∷ c ∷ []) (p ∷ ps) fs gs l e = differ (cc)
planes_back (a ∷ b ∷ c ∷ d ∷ xs) [] fs gs l e = absurd (omega arith)
planes_back (a ∷ b ∷ c ∷ d ∷ xs) (p ∷ ps) fs gs l e = by (planes_back xs ps fs gs (omega arith) (cc))
  where
    q : record { x = a; y = b; z = c; w = d } ≡ p
    q = cc

    by : ((xs ≡ flat_planes ps) × (fs ≡ gs)) ⊎ (other ∷ fs ≡ gs) → ((a ∷ b ∷ c ∷ d ∷ xs ≡ p.x ∷ p.y ∷ p.z ∷ p.w ∷ flat_planes ps) × (fs ≡ gs)) ⊎ (other ∷ fs ≡ gs)
    by (inl k) = inl ((λ i. (q i).x ∷ (q i).y ∷ (q i).z ∷ (q i).w ∷ k.0 i), k.1)
    by (inr k) = inr k

nodes_back : (ns : List ℕ) (es : List Entry) (fs gs : List Frame) → length ns / 3 ≡ length es → node_table ns fs ≡ node_frames es gs → ((ns ≡ flat_nodes es) × (fs ≡ gs)) ⊎ (other ∷ fs ≡ gs)
unfolding node_table flat_nodes
nodes_back [] [] fs gs l e = inl (refl, e)
nodes_back [] (d ∷ es) fs gs l e = absurd (omega arith)
nodes_back (n ∷ []) [] fs gs l e = inr e
nodes_back (n ∷ []) (d ∷ es) fs gs l e = differ (cc)
nodes_back (n ∷ f ∷ []) [] fs gs l e = inr e
nodes_back (n ∷ f ∷ []) (d ∷ es) fs gs l e = differ (cc)
nodes_back (n ∷ f ∷ b ∷ ns) [] fs gs l e = absurd (omega arith)
nodes_back (n ∷ f ∷ b ∷ ns) (entry n' f' b' ∷ es) fs gs l e = by (nodes_back ns es fs gs (omega arith) (cc))
  where
    by : ((ns ≡ flat_nodes es) × (fs ≡ gs)) ⊎ (other ∷ fs ≡ gs) → ((n ∷ f ∷ b ∷ ns ≡ n' ∷ f' ∷ b' ∷ flat_nodes es) × (fs ≡ gs)) ⊎ (other ∷ fs ≡ gs)
    by (inl k) = inl (cc k.0, k.1)
    by (inr k) = inr k

no_other : (es : List Entry) (fs gs : List Frame) → other ∷ fs ≢ node_frames es (end ∷ gs)
no_other [] fs gs e = differ (cc)
no_other (d ∷ es) fs gs e = differ (cc)

record Same (xs : List ℤ) (ns : List ℕ) (r : ℕ) (a : Tables) (rest : List Frame) : Type 0 where
  flat : Flat a xs ns r
  nothing : [] ≡ rest

lent_same : (xs : List ℤ) (ns : List ℕ) (r : ℕ) (a : Tables) (rest : List Frame) → lent_frames xs ns r ≡ solid_frames a rest → Same xs ns r a rest
unfolding solid_frames
lent_same xs ns r (tables ps es u) rest e = at_planes (planes_back xs ps (node_table ns (end ∷ [])) (node_frames es (end ∷ rest)) (cc) (cc))
  where
    at_nodes : xs ≡ flat_planes ps → ((ns ≡ flat_nodes es) × (end ∷ [] ≡ end ∷ rest)) ⊎ (other ∷ end ∷ [] ≡ end ∷ rest) → Same xs ns r (tables ps es u) rest
    at_nodes h (inl k) = record { flat = record { planes = h; nodes = k.0; root = cc }; nothing = cc k.1 }
    at_nodes h (inr k) = differ (cc)

    at_planes : ((xs ≡ flat_planes ps) × (node_table ns (end ∷ []) ≡ node_frames es (end ∷ rest))) ⊎ (other ∷ node_table ns (end ∷ []) ≡ node_frames es (end ∷ rest)) → Same xs ns r (tables ps es u) rest
    at_planes (inl k) = at_nodes k.0 (nodes_back ns es (end ∷ []) (end ∷ rest) (cc) k.1)
    at_planes (inr k) = absurd (no_other es (node_table ns (end ∷ [])) rest k)

-- ---- taken, or refused

-- rows that are taken are the rows of the tables answered, which are lawful
pub lent_taken : (xs : List ℤ) (ns : List ℕ) (r : ℕ) (a : Tables) → judge_lent (lent xs ns r) ≡ accepted a → Flat a xs ns r × LawfulTables a
unfolding judge_lent
lent_taken xs ns r a e =
    let x = finish_accepted (read_solid (lent_rooms xs ns) fresh 1 (lent_frames xs ns r)) a e in
    let y = solid_read (lent_rooms xs ns) (lent_frames xs ns r) 1 a x.0 [] x.1 in
    ((lent_same xs ns r a [] y.frames_are).flat, y.lawful)

-- rows that are refused break the rule of that number at that line, and none before
pub lent_refused : (xs : List ℤ) (ns : List ℕ) (r n l : ℕ) → judge_lent (lent xs ns r) ≡ refusal n l → RefusedAt (lent_rooms xs ns) fresh 1 (lent_frames xs ns r) n l
unfolding judge_lent
lent_refused xs ns r n l = by (read_solid (lent_rooms xs ns) fresh 1 (lent_frames xs ns r)) refl
  where
    by : (x : Reading) → read_solid (lent_rooms xs ns) fresh 1 (lent_frames xs ns r) ≡ x → finish x ≡ refusal n l → RefusedAt (lent_rooms xs ns) fresh 1 (lent_frames xs ns r) n l
    by (read b k []) h e = differ (cc)
    by (read b k (f ∷ fs)) h e = differ (cc (lent_same xs ns r b (f ∷ fs) (solid_read (lent_rooms xs ns) (lent_frames xs ns r) 1 b k (f ∷ fs) h).frames_are).nothing)
    by (refused m k) h e = let x : m ≡ n = cc in let y : k ≡ l = cc in solid_refused (lent_rooms xs ns) fresh 1 (lent_frames xs ns r) n l (h ∙ (λ j. refused (x j) (y j)))

-- and back
pub refused_lent : (xs : List ℤ) (ns : List ℕ) (r n l : ℕ) → RefusedAt (lent_rooms xs ns) fresh 1 (lent_frames xs ns r) n l → judge_lent (lent xs ns r) ≡ refusal n l
unfolding judge_lent
refused_lent xs ns r n l x = ap finish (refused_solid x)
