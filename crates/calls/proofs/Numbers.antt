-- The answer's numbers at the border: no two refusals share one, and nothing of the answer is lost.
-- Assumes nothing.
use mathlib.Core.Path.{◌≡◌, refl, sym, ap, ◌∙◌}
use mathlib.Core.Logic.Iff
use mathlib.Core.Logic.{◌⊎◌, inl, inr}
use mathlib.Core.Bool.{Bool, true, false, not}
use mathlib.Core.List.{List, [], ◌∷◌}
use mathlib.Core.Option.{Option, none, some}
use Prim.Native.Nat.{ℕ, ◌-◌, ◌≤◌}
use native.Mathlib.Omega.{arith}
use lib.Dec.{eqb}
use Rattle.std.specs.Int.{from_bool}
use Rattle.std.specs.Prelude.{Ok, Err}
use lib.ListN.{get_or}
use borrow.Author.Tests.{ne_eqb}
use Rattle.listing.specs.First.{first}
use Rattle.listing.proofs.First.{none_applies}
use Rattle.calls.specs.Questions.{number, Question}
use Rattle.calls.specs.Refuses.{TellsNo}
use Rattle.calls.proofs.Asked.{first_no}
use Rattle.calls.specs.Call.{Answer, written, more, is_page}
use Rattle.calls.specs.Border.{refusal_by, refused_number, SaysRefusal, yes_number, reply_of, InNumbers}
use Rattle.calls.specs.declared.Refusal.{Refusal}
use Rattle.calls.specs.declared.Refusal.TheVariants.{Code, Inputs, Order, Limit, Table, Memory, Report, First}
use Rattle.calls.specs.declared.Refusal.TheVariants.{Blocks, Check, Form, Records, Rows, Space, Size, Paths}
use Rattle.calls.specs.declared.Outcome.{Outcome}

-- the refusals in the order of their numbers, 1 to 16
abbrev refusals : List Refusal
refusals =
    Code ∷ Inputs ∷ Order ∷ Limit ∷ Table ∷ Memory ∷ Report ∷ First
    ∷ Blocks ∷ Check ∷ Form ∷ Records ∷ Rows ∷ Space ∷ Size ∷ Paths ∷ []

-- so each refusal is that of its number, and no two share one
abbrev refusal : ℕ → Refusal
refusal n = get_or refusals (n - 1) Code

record Numbered (r : Refusal) : Type 0 where
  back : refusal (number r) ≡ r
  least : 1 ≤ number r

numbered : (r : Refusal) → Numbered r
numbered Code = record { back = refl; least = omega arith }
numbered Inputs = record { back = refl; least = omega arith }
numbered Order = record { back = refl; least = omega arith }
numbered Limit = record { back = refl; least = omega arith }
numbered Table = record { back = refl; least = omega arith }
numbered Memory = record { back = refl; least = omega arith }
numbered Report = record { back = refl; least = omega arith }
numbered First = record { back = refl; least = omega arith }
numbered Blocks = record { back = refl; least = omega arith }
numbered Check = record { back = refl; least = omega arith }
numbered Form = record { back = refl; least = omega arith }
numbered Records = record { back = refl; least = omega arith }
numbered Rows = record { back = refl; least = omega arith }
numbered Space = record { back = refl; least = omega arith }
numbered Size = record { back = refl; least = omega arith }
numbered Paths = record { back = refl; least = omega arith }

pub number_injective : (q r : Refusal) → number q ≡ number r → q ≡ r
number_injective q r e = sym (numbered q).back ∙ ap refusal e ∙ (numbered r).back

not_some : {r : Refusal} → none ≡ some r → ⊥
not_some e = let z : ◌≡◌ {A = ℕ} 0 1 = cc in absurd (omega arith)

-- the border's number tells whether there is a refusal, and which
pub says_refusal : (o : Option Refusal) → SaysRefusal (refused_number o) o
says_refusal none =
    record {
      accepted = (λ e. refl, λ e. refl);
      refused = λ r. (λ e. absurd (omega (arith, (numbered r).least)), λ e. absurd (not_some e));
    }
says_refusal (some q) =
    record {
      accepted = (λ e. absurd (omega (arith, (numbered q).least)), λ e. absurd (not_some (sym e)));
      refused = λ r. (
        λ e. ap (λ (x : Refusal). some x) (number_injective q r e),
        λ e. let z : q ≡ r = cc in ap number z,
      );
    }

-- so it tells what the questions come to
pub tells_no : (qs : List Question) {n : ℕ} → n ≡ refused_number (first qs) → TellsNo qs n
tells_no qs e =
    let says = says_refusal (first qs) in
    rw e (record {
      accepted = Iff.trans says.accepted (none_applies qs);
      refused = λ r. Iff.trans (says.refused r) (first_no qs r);
    })

-- a number is 0 or a refusal's
pub refused_either : (o : Option Refusal) → (refused_number o ≡ 0) ⊎ ((r : Refusal) × (refused_number o ≡ number r))
refused_either none = inl refl
refused_either (some r) = inr (r, refl)

-- 0 is the number of a page alone
pub accepted_page : (a : Answer) → eqb (reply_of a).refused 0 ≡ is_page a
unfolding is_page
accepted_page (Err r) = ne_eqb (number r) 0 (λ e. absurd (omega (arith, (numbered r).least)))
accepted_page (Ok p) = refl

-- std's number of a yes
pub yes_from : (yes : Bool) {n : ℕ} → n ≡ from_bool yes → n ≡ yes_number yes
yes_from true e = e
yes_from false e = e

yes_back : (yes : Bool) → not (eqb (yes_number yes) 0) ≡ yes
yes_back true = refl
yes_back false = refl

-- and its numbers say which page it is
pub page_said : (a : Answer) → is_page a ≡ true → Ok (record { count = (reply_of a).count; more = not (eqb (reply_of a).more 0) }) ≡ a
unfolding is_page written more
page_said (Err r) e = let z : ◌≡◌ {A = ℕ} 0 1 = cc in absurd (omega arith)
page_said (Ok p) e = ap (λ (m : Bool). Ok (record p { more = m })) (yes_back p.more)

pub reply_numbers : (a : Answer) → InNumbers (reply_of a) a
reply_numbers a = record { refusal = says_refusal (refusal_by a); count = refl; further = refl }

yes_injective : (t u : Bool) → yes_number t ≡ yes_number u → t ≡ u
yes_injective true true e = refl
yes_injective true false e = absurd (omega arith)
yes_injective false true e = absurd (omega arith)
yes_injective false false e = refl

-- answers with the same numbers are the same
pub reply_injective : (a b : Answer) → reply_of a ≡ reply_of b → a ≡ b
unfolding written more
reply_injective (Err q) (Err r) e = ap (λ (x : Refusal). Err x) (number_injective q r (ap (λ (o : Outcome). o.refused) e))
reply_injective (Err q) (Ok p) e = absurd (omega (arith, (numbered q).least, ap (λ (o : Outcome). o.refused) e))
reply_injective (Ok p) (Err r) e = absurd (omega (arith, (numbered r).least, ap (λ (o : Outcome). o.refused) e))
reply_injective (Ok p) (Ok q) e =
    let further : p.more ≡ q.more = yes_injective p.more q.more (ap (λ (o : Outcome). o.more) e) in
    ap (λ (n : ℕ). Ok (record p { count = n })) (ap (λ (o : Outcome). o.count) e) ∙ ap (λ (m : Bool). Ok (record q { more = m })) further
