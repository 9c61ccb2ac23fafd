-- The answers of one line, put together: what a call told of the frame, and the judgement of what it read.
--     head_read .. end_read   a head's line, a plane's, a node's and the end's, from what the two calls told
--     told                    all of them
use mathlib.Core.Path.{◌≡◌, sym}
use mathlib.Core.List.{List}
use Prim.Native.Nat.{ℕ}
use lib.Dec.{leb}
use lib.IntN.{ℤ}
use lib.ListN.{drop}
use Rattle.std.specs.Prelude.{Ok, Err}
use Rattle.scope.specs.Text.{frames, head, end}
use Rattle.scope.specs.Judging.{Rooms, judge_head}
use Rattle.frames.specs.declared.Cursor.{Cursor}
use Rattle.frames.specs.Promises.{IsPlane, IsNode, Reads, PlaneRead, Kept}
use Rattle.tables.specs.declared.Solid.{Solid}
use Rattle.tables.specs.Work.{all_marked}
use Rattle.tables.specs.Promises.{judged, plane_judged, end_judged}
use Rattle.lines.specs.Lines.{HeadLine, head_taken, no_head, bad_head, PlaneLine, plane_taken, no_plane, bad_plane, NodeLine, node_taken, no_node, bad_node, EndLine, end_taken, no_end, bad_end}

module _ {t : List ℕ} {at : ℕ} {a : Rooms} where
  pub head_read : {s : Solid} {c : Cursor} → Reads t at (head s.planes s.nodes s.root) 13 c.at → Ok tt ≡ judged (judge_head a s.planes s.nodes s.root) → HeadLine t at a (Ok (s, c))
  head_read r e = head_taken r (sym e)

  pub head_bad : {n m r k next : ℕ} → Reads t at (head n m r) 13 next → Err k ≡ judged (judge_head a n m r) → HeadLine t at a (Err k)
  head_bad r e = bad_head r (sym e)

module _ {t : List ℕ} {at i : ℕ} {xs xs' : List ℤ} where
  pub plane_read : {c : Cursor} → PlaneRead t at i xs xs' c.at → Ok tt ≡ plane_judged xs' i → PlaneLine t at i xs xs' (Ok c)
  plane_read r e = plane_taken r (sym e)

  pub plane_bad : {k next : ℕ} → PlaneRead t at i xs xs' next → Err k ≡ plane_judged xs' i → PlaneLine t at i xs xs' (Err k)
  plane_bad r e = bad_plane r (sym e)

  pub plane_missing : {k : ℕ} → Kept IsPlane (frames (drop at t)) k xs xs' → PlaneLine t at i xs xs' (Err k)
  plane_missing h = no_plane h.refuses

module _ {t : List ℕ} {at n i : ℕ} {ns ns' : List ℕ} {w w' : List ℤ} {depth : ℕ} where
  pub node_missing : {k : ℕ} → Kept IsNode (frames (drop at t)) k ns ns' → NodeLine t at n i ns ns' w w' depth (Err k)
  node_missing h = no_node h.refuses

module _ {t : List ℕ} {at n : ℕ} {w : List ℤ} {depth : ℕ} where
  pub end_read : {c : Cursor} → Reads t at end 3 c.at → Ok tt ≡ end_judged (all_marked w n) (leb depth 1) → EndLine t at n w depth (Ok c)
  end_read r e = end_taken r (sym e)

  pub end_bad : {k next : ℕ} → Reads t at end 3 next → Err k ≡ end_judged (all_marked w n) (leb depth 1) → EndLine t at n w depth (Err k)
  end_bad r e = bad_end r (sym e)

pub ruleset told = (head_read, head_bad, no_head, plane_read, plane_bad, plane_missing, node_taken, bad_node, node_missing, end_read, end_bad, no_end)
