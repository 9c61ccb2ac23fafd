-- A text that is not refused is the text of exactly one lawful solid, and the text of a lawful solid that fits the rooms is read.
--     Roomy, lines_of                 the solid fits the lent rooms; the lines that it takes
--     solid_reads                     the frames of a lawful solid are read, whatever follows
--     SolidRead, solid_read, solid_again, solid_line   frames are read exactly if they are those of a lawful solid that fits, and what follows
--     judge_text, judge_tree          written and read again: the same tables
--     Read, judge_read                read and written again: the same text
--     text_injective, text_of_injective   one solid, one text
--     Only, judge_only, judge_accepts     a text is accepted exactly if it is the text of one lawful solid that fits
use Rattle.std.specs.Prelude.{◌≡◌, refl, Bool, true, false, cond, T, leb}
use Rattle.std.proofs.Common.{sym, subst, ◌∙◌, leb→le, le→leb}
use Rattle.std.proofs.Math.Path.{ap}
use mathlib.Core.List.{List, [], ◌∷◌, ◌++◌, append_assoc, append-nil}
use Rattle.std.proofs.Math.Option.{Option, none, some}
use Prim.Native.Nat.{ℕ, suc, ◌+◌}
use native.Mathlib.Omega.{arith}
use Rattle.std.proofs.Math.ListN.{length, length-append}
use Rattle.whole.specs.Tests.{differ, le_true, and_split, and_make}
use Rattle.whole.specs.Lists.{Each, Each.none, each_map}
use Rattle.whole.specs.Members.{◌∈◌, here, there}
use Rattle.scope.specs.Limits.{most_planes, most_nodes, most_text}
use Rattle.scope.specs.Planes.{Plane, Lawful}
use Rattle.scope.specs.Solids.{Tree, Entry, Tables, tables, tables_of, LawfulTree}
use Rattle.scope.specs.Text.{Frame, head, end, frames, written, plane_frames, node_frames, solid_frames, text, text_of}
use Rattle.scope.specs.Judging.{Sub, Rooms, State, fresh, busy, Step, go, done, stop, in_rooms, follows, step, Reading, read, refused, next, read_solid, accepted, refusal, finish, judge}
use Rattle.theory.specs.Text.Build.{build, tree_of}
use Rattle.theory.specs.Planes.Lists.{Ascending, empty, next as after}
use Rattle.theory.specs.Text.Frames.{Fits, Good, good_fits, frames_written, written_frames}
use Rattle.theory.specs.Text.Stacks.{build_cons}
use Rattle.theory.specs.Text.Trees.{LawfulParts, LawfulTables, tables_lawful, tree_tables, tree_lawful, tables_tree}
use Rattle.theory.specs.Text.Sizes.{writable, solid_fits, text_length}
use Rattle.theory.specs.Text.Rules.{Goes, head_goes, plane_goes, row_goes, takes, Ends, all_there, ends, finishes}
use Rattle.theory.specs.Text.Reached.{Sound, step_sound, lines_to, planes_then, nodes_then, step_lines}

-- the solid fits the lent rooms
abbrev pub Roomy : Rooms → Tables → Type 0
Roomy s (tables ps es r) = T (in_rooms s (length ps) (length es))

-- the lines of a solid: its planes, its nodes, head and end
abbrev pub lines_of : Tables → ℕ
lines_of (tables ps es r) = length ps + length es + 2

-- ---- the frames of a lawful solid are read

-- planes that are lawful and follow one another
data Up : Option Plane → List Plane → Type 0 where
  stop_up : {l : Option Plane} → Up l []
  step_up : {l : Option Plane} {p : Plane} {ps : List Plane} → Lawful p → T (follows l p) → Up (some p) ps → Up l (p ∷ ps)

ascending_up : {l : Option Plane} {ps : List Plane} → Ascending ps → ((p : Plane) → p ∈ ps → Lawful p) → ((p : Plane) → p ∈ ps → T (follows l p)) → Up l ps
ascending_up empty h k = stop_up
ascending_up (after {p = p} {ps = ps} b a) h k = step_up (h p (here refl)) (k p (here refl)) (ascending_up a (λ q m. h q (there m)) (λ q m. (b q m).is))

final : Option Plane → List Plane → Option Plane
final l [] = l
final l (p ∷ ps) = final (some p) ps

module _ (s : Rooms) where
  go_on : {c c' : State} {f : Frame} (k : ℕ) (fs : List Frame) → Goes s c f c' → read_solid s c k (f ∷ fs) ≡ read_solid s c' (suc k) fs
  unfolding read_solid
  go_on k fs g = ap (λ x. next x (λ c. read_solid s c (suc k) fs) k fs) (takes g)

  come_to_end : {c : State} {f : Frame} {a : Tables} (k : ℕ) (fs : List Frame) → Ends c f a → read_solid s c k (f ∷ fs) ≡ read a (suc k) fs
  unfolding read_solid
  come_to_end k fs x = ap (λ x. next x (λ c. read_solid s c (suc k) fs) k fs) (finishes s x)

  run_planes : {l : Option Plane} {qs : List Plane} (m r : ℕ) (ps : List Plane) (es : List Entry) (st : List Sub) (k : ℕ) (fs : List Frame) → Up l qs
      → read_solid s (busy (length qs) m r l ps es st) k (plane_frames qs fs) ≡ read_solid s (busy 0 m r (final l qs) (ps ++ qs) es st) (k + length qs) fs
  unfolding final
  run_planes {l} m r ps es st k fs stop_up = let z : k ≡ k + 0 = omega arith in λ i. read_solid s (busy 0 m r l (sym (append-nil ps) i) es st) (z i) fs
  run_planes m r ps es st k fs (step_up {p = p} {ps = qs} h t u) =
      let z : suc k + length qs ≡ k + suc (length qs) = omega arith in
      go_on k (plane_frames qs fs) (plane_goes h t) ∙ run_planes m r (ps ++ (p ∷ [])) es st (suc k) fs u ∙ (λ i. read_solid s (busy 0 m r (final (some p) qs) (append_assoc ps (p ∷ []) qs i) es st) (z i) fs)

  run_rows : (r : ℕ) (l : Option Plane) (ps : List Plane) (es : List Entry) (st : List Sub) (k : ℕ) (ds : List Entry) (st' : List Sub) (fs : List Frame) → build ps (length es) st ds ≡ some st'
      → read_solid s (busy 0 (length ds) r l ps es st) k (node_frames ds fs) ≡ read_solid s (busy 0 0 r l ps (es ++ ds) st') (k + length ds) fs
  unfolding build
  run_rows r l ps es st k [] st' fs e = let x : st ≡ st' = cc in let z : k ≡ k + 0 = omega arith in λ i. read_solid s (busy 0 0 r l ps (sym (append-nil es) i) (x i)) (z i) fs
  run_rows r l ps es st k (d ∷ ds) st' fs e =
      let x = build_cons ps (length es) st d ds st' e in
      let n : length (es ++ (d ∷ [])) ≡ suc (length es) = simp length-append (omega arith) in
      let z : suc k + length ds ≡ k + suc (length ds) = omega arith in
      go_on k (node_frames ds fs) (row_goes x.1) ∙ run_rows r l ps (es ++ (d ∷ [])) x.0 (suc k) ds st' fs (rw n x.2) ∙ (λ i. read_solid s (busy 0 0 r l ps (append_assoc es (d ∷ []) ds i) st') (z i) fs)

  run_parts : (ps : List Plane) (es : List Entry) (r k : ℕ) (fs : List Frame) → LawfulParts ps es r → T (in_rooms s (length ps) (length es))
      → read_solid s fresh k (head (length ps) (length es) r ∷ plane_frames ps (node_frames es (end ∷ fs))) ≡ read (tables ps es r) (suc (suc k + length ps + length es)) fs
  run_parts ps es r k fs h t =
      let u = and_split (leb (length ps) s.plane_rows) (leb (length es) s.node_rows) t in
      go_on k (plane_frames ps (node_frames es (end ∷ fs))) (head_goes h.few_planes h.few_rows h.root (leb→le (length ps) s.plane_rows u.0) (leb→le (length es) s.node_rows u.1))
      ∙ run_planes (length es) r [] [] [] (suc k) (node_frames es (end ∷ fs)) (ascending_up {l = none} h.strictly h.each (λ p m. tt))
      ∙ run_rows r (final none ps) ps [] [] (suc k + length ps) es h.stack (end ∷ fs) h.stands
      ∙ come_to_end (suc k + length ps + length es) fs (all_there h.used h.one)

-- the frames of a lawful solid that fits are read, from any line on and whatever follows
pub solid_reads : (s : Rooms) (a : Tables) (k : ℕ) (fs : List Frame) → LawfulTables a → Roomy s a → read_solid s fresh k (solid_frames a fs) ≡ read a (k + lines_of a) fs
unfolding solid_frames
solid_reads s (tables ps es r) k fs h t = run_parts s ps es r k fs h t ∙ ap (λ i. read (tables ps es r) i fs) (omega arith)

-- ---- frames that are read are those of a lawful solid

-- the frames fs are those of the lawful tables a, which fit, and then rest
pub record SolidRead (s : Rooms) (fs : List Frame) (a : Tables) (rest : List Frame) : Type 0 where
  pub lawful : LawfulTables a
  pub room : Roomy s a
  pub frames_are : fs ≡ solid_frames a rest

ended : {s : Rooms} {c : State} {f : Frame} {a : Tables} (fs : List Frame) → Ends c f a → Sound s c → SolidRead s (lines_to c ++ f ∷ fs) a fs
unfolding solid_frames
ended {s} fs (all_there {r = r} {ps = ps} {es = es} {st = st} h t) k =
    let n : length ps + 0 ≡ length ps = omega arith in
    let m : length es + 0 ≡ length es = omega arith in
    record {
      lawful = record { each = k.each; strictly = k.strictly; few_planes = omega (arith, k.few_planes); few_rows = omega (arith, k.few_rows); stack = st; stands = k.built; one = t; root = rw m at k.root; used = h };
      room = and_make (leb (length ps) s.plane_rows) (leb (length es) s.node_rows) (le→leb (length ps) s.plane_rows (omega (arith, k.plane_room))) (le→leb (length es) s.node_rows (omega (arith, k.node_room)));
      frames_are = λ i. head (n i) (m i) r ∷ (planes_then ps (node_frames es []) (end ∷ fs) ∙ ap (plane_frames ps) (nodes_then es [] (end ∷ fs))) i;
    }

read_sound : (s : Rooms) (c : State) (k : ℕ) (fs : List Frame) (a : Tables) (k' : ℕ) (rest : List Frame) → Sound s c → read_solid s c k fs ≡ read a k' rest → SolidRead s (lines_to c ++ fs) a rest
unfolding read_solid
read_sound s c k [] a k' rest h e = differ (cc)
read_sound s c k (f ∷ fs) a k' rest h e = by (step s c f) refl e (λ c' i. read_sound s c' (suc k) fs a k' rest i)
  where
    by : (x : Step) → step s c f ≡ x → next x (λ c'. read_solid s c' (suc k) fs) k fs ≡ read a k' rest → ((c' : State) → Sound s c' → read_solid s c' (suc k) fs ≡ read a k' rest → SolidRead s (lines_to c' ++ fs) a rest) → SolidRead s (lines_to c ++ f ∷ fs) a rest
    by (go c') x e r = subst (λ i. SolidRead s i a rest) (ap (λ i. i ++ fs) (step_lines s c f c' h x) ∙ append_assoc (lines_to c) (f ∷ []) fs) (r c' (step_sound s c f c' h x) e)
    by (done b) x e r = let u : b ≡ a = cc in let v : fs ≡ rest = cc in subst (λ i. SolidRead s (lines_to c ++ f ∷ fs) i rest) u (subst (λ i. SolidRead s (lines_to c ++ f ∷ fs) b i) v (ended fs (ends s c f b x) h))
    by (stop n) x e r = differ (cc)

-- frames that are read are those of a lawful solid that fits
pub solid_read : (s : Rooms) (fs : List Frame) (k : ℕ) (a : Tables) (k' : ℕ) (rest : List Frame) → read_solid s fresh k fs ≡ read a k' rest → SolidRead s fs a rest
solid_read s fs k a k' rest e = read_sound s fresh k fs a k' rest tt e

-- such frames are read, from any line on
pub solid_again : {s : Rooms} {fs : List Frame} {a : Tables} {rest : List Frame} (k : ℕ) → SolidRead s fs a rest → read_solid s fresh k fs ≡ read a (k + lines_of a) rest
solid_again {s} {fs} {a} {rest} k y = ap (read_solid s fresh k) y.frames_are ∙ solid_reads s a k rest y.lawful y.room

-- the number of the line that follows
pub solid_line : (s : Rooms) (k : ℕ) (fs : List Frame) (a : Tables) (k' : ℕ) (rest : List Frame) → read_solid s fresh k fs ≡ read a k' rest → k' ≡ k + lines_of a
solid_line s k fs a k' rest h = cc (solid_again k (solid_read s fs k a k' rest h))

-- ---- written, then read

-- the text of lawful tables that fit is read as those tables
pub judge_text : (s : Rooms) (a : Tables) → LawfulTables a → Roomy s a → judge s (text a) ≡ accepted a
unfolding judge text
judge_text s a h t = rw (le_true (length (text a)) most_text (omega (arith, text_length a h))) (ap finish (ap (read_solid s fresh 1) (frames_written (solid_fits a [] (writable a h) none)) ∙ solid_reads s a 1 [] h t))

-- the text of a lawful solid that fits is read as its tables
pub judge_tree : (s : Rooms) (t : Tree) → LawfulTree t → Roomy s (tables_of t) → judge s (text_of t) ≡ accepted (tables_of t)
unfolding text_of
judge_tree s t l r = judge_text s (tables_of t) (tables_lawful t l) r

-- ---- one solid, one text

abbrev largest : Rooms
largest = record { plane_rows = most_planes; node_rows = most_nodes }

roomy : (a : Tables) → LawfulTables a → Roomy largest a
roomy (tables ps es r) h = and_make (leb (length ps) most_planes) (leb (length es) most_nodes) (le→leb (length ps) most_planes h.few_planes) (le→leb (length es) most_nodes h.few_rows)

-- lawful tables with the same text are the same
pub text_injective : (a b : Tables) → LawfulTables a → LawfulTables b → text a ≡ text b → a ≡ b
text_injective a b h k e = cc (judge_text largest a h (roomy a h), judge_text largest b k (roomy b k), ap (judge largest) e)

-- lawful solids with the same text are the same
pub text_of_injective : (t u : Tree) → LawfulTree t → LawfulTree u → text_of t ≡ text_of u → t ≡ u
unfolding text_of
text_of_injective t u h k e = sym (tree_tables t h) ∙ ap tree_of (text_injective (tables_of t) (tables_of u) (tables_lawful t h) (tables_lawful u k) e) ∙ tree_tables u k

-- ---- read, then written

-- frames that are those of something that can be written are the text written
pub frames_text : (t : List ℕ) (fs : List Frame) → frames t ≡ fs → Each Fits fs → written fs ≡ t
frames_text t fs e h = ap written (sym e) ∙ written_frames t (subst (λ i. Each Good i) (sym e) (each_map (λ f. good_fits {f = f}) h))

-- nothing follows what is accepted
pub finish_accepted : (x : Reading) (a : Tables) → finish x ≡ accepted a → (k : ℕ) × (x ≡ read a k [])
finish_accepted (read b k []) a e = let d : b ≡ a = cc in (k, rw d refl)
finish_accepted (read b k (f ∷ fs)) a e = differ (cc)
finish_accepted (refused n l) a e = differ (cc)

-- a text that is not refused
pub record Read (s : Rooms) (t : List ℕ) (a : Tables) : Type 0 where
  pub lawful : LawfulTables a
  pub room : Roomy s a
  pub same_text : text a ≡ t

-- a text that is accepted is the text of the tables read, which are lawful and fit
pub judge_read : (s : Rooms) (t : List ℕ) (a : Tables) → judge s t ≡ accepted a → Read s t a
unfolding judge text
judge_read s t a = by (leb (length t) most_text)
  where
    by : (b : Bool) → cond b (finish (read_solid s fresh 1 (frames t))) (refusal 3 0) ≡ accepted a → Read s t a
    by false e = differ (cc)
    by true e =
        let x = finish_accepted (read_solid s fresh 1 (frames t)) a e in
        let y = solid_read s (frames t) 1 a x.0 [] x.1 in
        record { lawful = y.lawful; room = y.room; same_text = frames_text t (solid_frames a []) y.frames_are (solid_fits a [] (writable a y.lawful) none) }

-- the text of exactly one lawful tree
pub record Only (t : List ℕ) (u : Tree) : Type 0 where
  pub lawful : LawfulTree u
  pub same_text : text_of u ≡ t
  pub only : (v : Tree) → LawfulTree v → text_of v ≡ t → v ≡ u

-- a text that is accepted is the text of exactly one lawful solid, the tree of the tables read
pub judge_only : (s : Rooms) (t : List ℕ) (a : Tables) → judge s t ≡ accepted a → Only t (tree_of a)
unfolding text_of
judge_only s t a e =
    let x = judge_read s t a e in
    let l = tree_lawful a x.lawful in
    let h : text (tables_of (tree_of a)) ≡ t = ap text (tables_tree a x.lawful) ∙ x.same_text in
    record { lawful = l; same_text = h; only = λ v k d. text_of_injective v (tree_of a) k l (d ∙ sym h) }

-- accepted exactly if it is the text of lawful tables that fit
pub judge_accepts : (s : Rooms) (t : List ℕ) (a : Tables) → LawfulTables a → Roomy s a → text a ≡ t → judge s t ≡ accepted a
judge_accepts s t a h r e = ap (judge s) (sym e) ∙ judge_text s a h r
