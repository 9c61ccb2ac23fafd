-- From the lines of a solid to the solid: head, rows and end.
use mathlib.Core.Path.{◌≡◌, sym, ap, ◌∙◌}
use mathlib.Core.List.{List, []}
use mathlib.Core.Option.{none}
use Prim.Native.Nat.{ℕ, suc, ◌+◌, ◌≤◌}
use native.Mathlib.Omega.{arith}
use lib.IntN.{ℤ}
use lib.ListN.{length, drop}
use Rattle.std.specs.Prelude.{Ok}
use Rattle.scope.specs.Solids.{tables}
use Rattle.scope.specs.Text.{frames}
use Rattle.scope.specs.Judging.{Rooms, fresh, busy, refused, read_solid}
use Rattle.frames.specs.declared.Cursor.{Cursor}
use Rattle.tables.specs.declared.Solid.{Solid}
use Rattle.lines.specs.Lines.{HeadLine, head_taken}
use Rattle.lines.specs.Reading.{RowsRead, WholeSolid}
use Rattle.lines.proofs.Whole.{head_read, HeadTaken, head_taken as within}

module _ (a : Rooms) (l : ℕ) {s : Solid} {c : Cursor} {t : List ℕ} {from : ℕ} where
  pub solid_opened : HeadLine t from a (Ok (s, c)) → read_solid a fresh l (frames (drop from t)) ≡ read_solid a (busy s.planes s.nodes s.root none [] [] []) (l + 1) (frames (drop c.at t))
  solid_opened (head_taken h e) = head_read a l s.planes s.nodes s.root h.first e ∙ ap (λ j. read_solid a (busy s.planes s.nodes s.root none [] [] []) j (frames (drop c.at t))) {x = suc l} {y = l + 1} (omega arith)

  -- the head's counts are within the limits and the rows lent
  pub solid_taken : HeadLine t from a (Ok (s, c)) → HeadTaken a s.planes s.nodes
  solid_taken (head_taken h e) = within a s.planes s.nodes s.root e

  pub solid_inside : HeadLine t from a (Ok (s, c)) → c.at ≤ length t
  solid_inside (head_taken h e) = h.inside

  module _ (h : HeadLine t from a (Ok (s, c))) where
    -- what the rows tell, told of the solid
    pub solid_refused : {k j : ℕ} → ((b : Rooms) → read_solid b (busy s.planes s.nodes s.root none [] [] []) (l + 1) (frames (drop c.at t)) ≡ refused k j) → read_solid a fresh l (frames (drop from t)) ≡ refused k j
    solid_refused e = solid_opened h ∙ e a

    pub whole_solid : {xs : List ℤ} {ns : List ℕ} {next j : ℕ} → RowsRead t c.at (l + 1) s xs ns next j → WholeSolid t from l a s xs ns next j
    whole_solid q = record {
      is = tables q.planes q.entries s.root;
      counts = λ i. record { planes = sym q.plane_count i; nodes = sym q.node_count i; root = s.root };
      plane_table = q.plane_table;
      node_table = q.node_table;
      inside = q.inside;
      near = omega (arith, q.line, taken.few_planes, taken.few_nodes);
      reading = solid_opened h ∙ q.reading a;
    }
      where
        taken : HeadTaken a s.planes s.nodes
        taken = solid_taken h
