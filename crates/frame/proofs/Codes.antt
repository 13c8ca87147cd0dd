-- Laws of the codes: a code says which command, status or refusal it is. Assumes nothing.
use mathlib.Core.Path.{◌≡◌, refl, sym, ap, ◌∙◌}
use mathlib.Core.Bool.{Bool, true, false, cond}
use mathlib.Core.List.{List, [], ◌∷◌}
use Prim.Native.Nat.{ℕ, ◌≤◌, ◌<◌}
use native.Mathlib.Omega.{arith}
use lib.ListN.{get_or-eq_default}
use lib.Dec.{ltb, eqb, eqb→eq}
use borrow.Author.Tests.{ltb-true, ltb-false}
use denote.Enum.Bare.{sameb}
use Rattle.frame.specs.contracts.status.Status as status
use Rattle.types.proofs.Finite.{by_run}
use Rattle.frame.specs.CommandIdentifier.{command_code, commands, command_of}
use Rattle.frame.specs.declared.command_identifier.CommandIdentifier.TheVariants.{Other}
use Rattle.frame.specs.Status.{status_code}
use Rattle.frame.specs.declared.status.Status.{Status}
use Rattle.frame.specs.declared.status.Status.TheVariants.{Success, UnsupCommand, UnsupportedAttribute, InvalidValue, ReadOnly, InsufficientSpace, NotFound, UnreportableAttribute, InvalidDataType, UnsupportedCluster}
use Rattle.frame.specs.Answer.{refusal_number}
use Rattle.frame.specs.declared.answer.Refusal.{Refusal}
use Rattle.frame.specs.declared.answer.Refusal.TheVariants.{OtherCluster, HeaderShort, ReservedFrameType, RecordCut, ReplyTooLong, NothingToSend, NotAStore, NotATable, NoNumber, NotSuchAReply, EmptyReport, NotReportable, NotASavedForm}

-- ---- commands

-- a code behind the named ones is its own command
pub other_of : (b : ℕ) → 14 ≤ b → command_of b ≡ Other b
unfolding command_of
other_of b h = get_or-eq_default commands (Other b) h

-- the command of a code has that code
pub code_of : (b : ℕ) → command_code (command_of b) ≡ b
unfolding command_of
code_of b = go (ltb b 14) refl
  where
    go : (x : Bool) → ltb b 14 ≡ x → command_code (command_of b) ≡ b
    go true e = eqb→eq _ b (by_run (λ k. eqb (command_code (command_of k)) k) 0 14 tt b (omega arith) (ltb-true b 14 e))
    go false e = ap command_code (other_of b (ltb-false b 14 e))

-- a command that a code stands for is the command of its code
pub of_code : (b : ℕ) → command_of (command_code (command_of b)) ≡ command_of b
of_code b = ap command_of (code_of b)

-- ---- statuses and refusals

module _ {A : Type 0} (code : A → ℕ) where
  -- the first of a list that has the code, or else `none`
  abbrev named : A → List A → ℕ → A
  named none [] n = none
  named none (x ∷ xs) n = cond (eqb (code x) n) x (named none xs n)

  -- codes that can be read back are different
  by_name : (none : A) (xs : List A) → ((x : A) → named none xs (code x) ≡ x) → (a b : A) → code a ≡ code b → a ≡ b
  by_name none xs back a b e = sym (back a) ∙ ap (named none xs) e ∙ back b

-- every status but the one that stands for want of another
abbrev statuses : List Status
statuses =
    UnsupCommand ∷ UnsupportedAttribute ∷ InvalidValue ∷ ReadOnly ∷ InsufficientSpace ∷ NotFound ∷ UnreportableAttribute ∷ InvalidDataType ∷ UnsupportedCluster ∷ []

status_back : (s : Status) → named status_code Success statuses (status_code s) ≡ s
status_back Success = refl
status_back UnsupCommand = refl
status_back UnsupportedAttribute = refl
status_back InvalidValue = refl
status_back ReadOnly = refl
status_back InsufficientSpace = refl
status_back NotFound = refl
status_back UnreportableAttribute = refl
status_back InvalidDataType = refl
status_back UnsupportedCluster = refl

-- two statuses with one code are one status
pub status_same : (s t : Status) → status_code s ≡ status_code t → s ≡ t
status_same = by_name status_code Success statuses status_back

-- the code 0 is success and nothing else
pub status_zero : (s : Status) → status_code s ≡ 0 → s ≡ Success
status_zero s e = status_same s Success e

-- every refusal but the first, likewise
abbrev refusals : List Refusal
refusals =
    HeaderShort ∷ ReservedFrameType ∷ RecordCut ∷ ReplyTooLong ∷ NothingToSend ∷ NotAStore ∷ NotATable ∷ NoNumber ∷ NotSuchAReply ∷ EmptyReport ∷ NotReportable ∷ NotASavedForm ∷ []

refusal_back : (w : Refusal) → named refusal_number OtherCluster refusals (refusal_number w) ≡ w
refusal_back OtherCluster = refl
refusal_back HeaderShort = refl
refusal_back ReservedFrameType = refl
refusal_back RecordCut = refl
refusal_back ReplyTooLong = refl
refusal_back NothingToSend = refl
refusal_back NotAStore = refl
refusal_back NotATable = refl
refusal_back NoNumber = refl
refusal_back NotSuchAReply = refl
refusal_back EmptyReport = refl
refusal_back NotReportable = refl
refusal_back NotASavedForm = refl

-- two refusals with one number are one refusal
pub refusal_same : (v w : Refusal) → refusal_number v ≡ refusal_number w → v ≡ w
refusal_same = by_name refusal_number OtherCluster refusals refusal_back

-- no refusal has the number 0, which is a reply's: 0 would be read back as the first, and that has 1
not_zero : (w : Refusal) → refusal_number w ≡ 0 → ⊥
not_zero w z =
    let one : refusal_number w ≡ 1 = ap refusal_number (sym (refusal_back w) ∙ ap (named refusal_number OtherCluster refusals) z) in
    omega arith

pub refusal_nonzero : (w : Refusal) → 0 < refusal_number w
refusal_nonzero w = omega (arith, not_zero w)

-- the derived equality tells SUCCESS from the others as its code does
pub is_success : (s : Status) → sameb status.the_type s Success ≡ eqb (status_code s) 0
is_success Success = refl
is_success UnsupCommand = refl
is_success UnsupportedAttribute = refl
is_success InvalidValue = refl
is_success ReadOnly = refl
is_success InsufficientSpace = refl
is_success NotFound = refl
is_success UnreportableAttribute = refl
is_success InvalidDataType = refl
is_success UnsupportedCluster = refl
