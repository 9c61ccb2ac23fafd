-- Document 01's number of each refusal, and the answers of the code as the definitions have them, with numbers.
--     number              the number of a refusal
--     numbered, lined     an answer with its refusal's number; and with its number and its line
--     number_unique, numbered_unique, lined_unique   two refusals have two numbers, so an answer is known by its numbers
use Rattle.std.specs.Prelude.{◌≡◌, refl, cond, ℕ, eqb, Result, Ok, Err}
use Rattle.std.proofs.Common.{sym, ap, ◌∙◌}
use Rattle.refusals.specs.declared.Refusal.{Refusal}
use Rattle.refusals.specs.declared.Refusal.TheVariants.{Malformed, NotDue, OverLimit, UnlawfulPlane, PlaneList, BadTree, UnknownOperation, NoRoom, OverPlanes, BadPoint}
use Rattle.refusals.specs.declared.LineRefusal.{LineRefusal}

abbrev pub number : Refusal → ℕ
number Malformed = 1
number NotDue = 2
number OverLimit = 3
number UnlawfulPlane = 4
number PlaneList = 5
number BadTree = 6
number UnknownOperation = 7
number NoRoom = 8
number OverPlanes = 9
number BadPoint = 10

abbrev pub numbered : {A : Type 0} → Result A Refusal → Result A ℕ
numbered (Ok x) = Ok x
numbered (Err e) = Err (number e)

abbrev pub lined : {A : Type 0} → Result A LineRefusal → Result A (ℕ × ℕ)
lined (Ok x) = Ok x
lined (Err e) = Err (number e.refusal, e.line)

-- ---- two refusals have two numbers

-- the refusal of a number, the last one where no other has it
abbrev named : ℕ → Refusal
named n = cond (eqb n 1) Malformed (cond (eqb n 2) NotDue (cond (eqb n 3) OverLimit (cond (eqb n 4) UnlawfulPlane (cond (eqb n 5) PlaneList (cond (eqb n 6) BadTree (cond (eqb n 7) UnknownOperation (cond (eqb n 8) NoRoom (cond (eqb n 9) OverPlanes BadPoint))))))))

named_back : (r : Refusal) → named (number r) ≡ r
named_back Malformed = refl
named_back NotDue = refl
named_back OverLimit = refl
named_back UnlawfulPlane = refl
named_back PlaneList = refl
named_back BadTree = refl
named_back UnknownOperation = refl
named_back NoRoom = refl
named_back OverPlanes = refl
named_back BadPoint = refl

pub number_unique : {r s : Refusal} → number r ≡ number s → r ≡ s
number_unique {r} {s} e = sym (named_back r) ∙ ap named e ∙ named_back s

-- an answer from its numbers
abbrev refused : {A : Type 0} → Result A ℕ → Result A Refusal
refused (Ok x) = Ok x
refused (Err k) = Err (named k)

refused_back : {A : Type 0} (r : Result A Refusal) → refused (numbered r) ≡ r
refused_back (Ok x) = refl
refused_back (Err e) = ap Err (named_back e)

pub numbered_unique : {A : Type 0} {r s : Result A Refusal} → numbered r ≡ numbered s → r ≡ s
numbered_unique {r = r} {s = s} e = sym (refused_back r) ∙ ap refused e ∙ refused_back s

abbrev of_line : ℕ × ℕ → LineRefusal
of_line p = record { refusal = named p.0; line = p.1 }

abbrev told : {A : Type 0} → Result A (ℕ × ℕ) → Result A LineRefusal
told (Ok x) = Ok x
told (Err p) = Err (of_line p)

told_back : {A : Type 0} (r : Result A LineRefusal) → told (lined r) ≡ r
told_back (Ok x) = refl
told_back (Err e) = ap (λ n. Err (record { refusal = n; line = e.line })) (named_back e.refusal)

pub lined_unique : {A : Type 0} {r s : Result A LineRefusal} → lined r ≡ lined s → r ≡ s
lined_unique {r = r} {s = s} e = sym (told_back r) ∙ ap told e ∙ told_back s
