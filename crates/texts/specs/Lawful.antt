-- A solid that a merge or a normal form gives is lawful.
--     merge_lawful, form_given_lawful
--     FormGiven, form_given   a normal form that is given, and its solid
use Rattle.std.specs.Prelude.{◌≡◌, ℕ}
use Rattle.std.proofs.Common.{subst}
use Rattle.whole.specs.Tests.{differ}
use Rattle.scope.specs.Solids.{Tree, Tables, tables_of, LawfulTree}
use Rattle.scope.specs.Normal.{NormalForm}
use Rattle.scope.specs.Judging.{Rooms, Verdict, accepted}
use Rattle.scope.specs.Answers.{Answer, given, MergeBy, no_operation, a_refused, b_refused, merged, FormBy, solid_refused, formed}
use Rattle.theory.specs.Answers.{Sound, solid_lawful}
use Rattle.theory.specs.Theorems as theorems
use Rattle.theory.specs.Theorems.{form_lawful}
use Rattle.theory.specs.Text.Trees.{LawfulTables, tables_lawful}
use Rattle.results.specs.Follows.{given_tree}

pub merge_lawful : {s : Rooms} {o : ℕ} {A B : Verdict} {c : Tables} {r : Answer Tables} → Sound A → Sound B → MergeBy s o A B r → r ≡ given c → LawfulTables c
merge_lawful la lb (no_operation n) e = differ (cc)
merge_lawful la lb (a_refused k f) e = differ (cc)
merge_lawful la lb (b_refused t k f g) e = differ (cc)
merge_lawful {s} la lb (merged x A B t eo ea eb w) e =
    let g = given_tree s t _ e in
    subst LawfulTables g.0 (tables_lawful t (record { each = theorems.merge_lawful x (solid_lawful la ea) (solid_lawful lb eb) w; few_planes = g.2; few_rows = g.1 }))

-- a normal form that is given: the solid, and its form
pub record FormGiven (A : Verdict) (c : Tables) : Type 0 where
  pub solid : Tree
  pub solid_is : A ≡ accepted (tables_of solid)
  pub tree : Tree
  pub right : NormalForm solid tree
  pub lawful : LawfulTree tree
  pub is : tables_of tree ≡ c

pub form_given : {s : Rooms} {A : Verdict} {c : Tables} {r : Answer Tables} → Sound A → FormBy s A r → r ≡ given c → FormGiven A c
form_given la (solid_refused e) f = differ (cc)
form_given {s} {c = c} la (formed a t e n) f = let g = given_tree s t c f in record { solid = a; solid_is = e; tree = t; right = n; lawful = form_lawful (solid_lawful la e) n g.1; is = g.0 }

pub form_given_lawful : {s : Rooms} {A : Verdict} {c : Tables} {r : Answer Tables} → Sound A → FormBy s A r → r ≡ given c → LawfulTables c
form_given_lawful la m e = let g = form_given la m e in subst LawfulTables g.is (tables_lawful g.tree g.lawful)
