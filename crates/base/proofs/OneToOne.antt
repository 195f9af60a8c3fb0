-- A fault is known by its number, and a call's result by its answer.
use mathlib.Core.Path.{◌≡◌, refl, sym, ap, ap₂, ◌∙◌}
use mathlib.Core.List.{[], ◌∷◌}
use Prim.Native.Nat.{ℕ}
use lib.ListN.{get_or}
use Rattle.std.specs.Prelude.{Result, Ok, Err}
use Rattle.base.specs.declared.refusal.Refusal.{Refusal}
use Rattle.base.specs.declared.refusal.Fault.{Fault}
use Rattle.base.specs.declared.refusal.Fault.TheVariants.{Contents, Count, Term, Knowledge, Claim, Step, Unfounded, Reachable, NoSecondWay, Undone, Page, NoSuchTerm, Program, Ragged, Stale, NotShown, OffTable, NoClaim, ShortSheet, Overfull}
use Rattle.base.specs.Answer.{number_of, answer_of}
use Rattle.base.proofs.AnswerLaws.{refused_not_done}

-- the fault of a number
abbrev fault_of : ℕ → Fault
fault_of n =
    get_or (Contents ∷ Contents ∷ Count ∷ Term ∷ Knowledge ∷ Claim ∷ Step ∷ Unfounded ∷ Reachable ∷ NoSecondWay ∷ Undone ∷ Page ∷ NoSuchTerm ∷ Program ∷ Ragged ∷ Stale ∷ NotShown ∷ OffTable ∷ NoClaim ∷ ShortSheet ∷ Overfull ∷ []) n Contents

fault_back : (a : Fault) → fault_of (number_of a) ≡ a
fault_back Contents = refl
fault_back Count = refl
fault_back Term = refl
fault_back Knowledge = refl
fault_back Claim = refl
fault_back Step = refl
fault_back Unfounded = refl
fault_back Reachable = refl
fault_back NoSecondWay = refl
fault_back Undone = refl
fault_back Page = refl
fault_back NoSuchTerm = refl
fault_back Program = refl
fault_back Ragged = refl
fault_back Stale = refl
fault_back NotShown = refl
fault_back OffTable = refl
fault_back NoClaim = refl
fault_back ShortSheet = refl
fault_back Overfull = refl

-- no two faults have one number
pub number_of_one_to_one : (a b : Fault) → number_of a ≡ number_of b → a ≡ b
number_of_one_to_one a b e = sym (fault_back a) ∙ ap fault_of e ∙ fault_back b

-- and no two results one answer
pub answer_of_one_to_one : (r r' : Result ℕ Refusal) → answer_of r ≡ answer_of r' → r ≡ r'
answer_of_one_to_one (Ok n) (Ok m) e = let f : n ≡ m = cc in ap Ok f
answer_of_one_to_one (Ok n) (Err x) e = refused_not_done (sym e)
answer_of_one_to_one (Err x) (Ok n) e = refused_not_done e
answer_of_one_to_one (Err x) (Err y) e =
    let f : number_of x.fault ≡ number_of y.fault = cc in
    let g : x.place ≡ y.place = cc in
    ap₂ (λ a p. Err (record { fault = a; place = p })) (number_of_one_to_one x.fault y.fault f) g
