-- A client is refused as below the minimum at most once before it leaves.
use Rattle.std.proofs.Common.{◌≡◌, ℕ, ◌+◌, ◌≤◌, Bool, true, false, not, ◌||◌, List, [], ◌∷◌, ◌++◌, Option, Some, None, is_some, refl, sym, arith, bytes_eq, filter_map, length}
use Rattle.fluid_types.specs.declared.entries.Raw.TheVariants.{Join, Leave, Submit, Report}
use Rattle.fluid_types.specs.declared.entries.Submission.{Submission}
use Rattle.fluid_types.specs.declared.messages.Message.{Message}
use Rattle.fluid_types.specs.declared.nacks.Nack.{Nack}
use Rattle.fluid_types.specs.declared.verdicts.Verdict.TheVariants.{Sequenced, Nacked, Dropped, Absorbed}
use Rattle.fluid_types.specs.Ledger.{Ledger}
use Rattle.fluid_rules.specs.Past as said
use Rattle.fluid_rules.specs.Past.{Past, Entry, settles, refused, is_below, latest}
use Rattle.fluid_rules.specs.Rules.{past_of, is_joined, is_nacked, verdict, IsLegal, refusals}
use Rattle.fluid_rules.proofs.Ids.{same_id}
use Rattle.fluid_rules.proofs.Legal.{legal-induction}
use Rattle.fluid_rules.proofs.Pushed.{past_of-push}
use Rattle.fluid_rules.proofs.Verdicts.{nacked-was}

-- a refusal counts one
counted : Option ℕ → ℕ
counted None = 0
counted (Some n) = 1

-- one entry more is at most one refusal more
step_at : (settled : Bool) (tells : Option ℕ) (entry : Entry) (past : Past) (c : List ℕ) → settles c entry ≡ settled → refused c entry ≡ tells →
    said.refusals (entry ∷ past) c ≤ counted tells + said.refusals past c
unfolding said.refusals said.tail counted
step_at true tells entry past c h at = rw h (omega arith)
step_at false None entry past c h at = rw (h, at) (omega arith)
step_at false (Some n) entry past c h at = rw (h, at) (omega arith)

-- no refusal where the latest tells none
none_at : (tells : Option ℕ) (c : List ℕ) (entry : Entry) (past : Past) → refused c entry ≡ tells → is_some (latest (refused c) (entry ∷ past)) ≡ false →
    (is_some (latest (refused c) past) ≡ false → length (filter_map (refused c) past) ≡ 0) → length (filter_map (refused c) (entry ∷ past)) ≡ 0
none_at None c entry past at h rest = rw at (rest (rw at at h))
none_at (Some n) c entry past at h rest = absurd (let no : true ≡ false = rw at at h in cc)

none_counted : (c : List ℕ) (past : Past) → is_some (latest (refused c) past) ≡ false → length (filter_map (refused c) past) ≡ 0
none_counted c [] h = refl
none_counted c (entry ∷ past) h = none_at (refused c entry) c entry past refl h (none_counted c past)

not_nacked : (past : Past) (c : List ℕ) → said.is_nacked past c ≡ false → said.refusals past c ≡ 0
unfolding said.is_nacked said.refusals
not_nacked past c h = none_counted c (said.tail past c) h

or_false : (a b : Bool) → (a || b) ≡ false → b ≡ false
or_false true b h = absurd (cc)
or_false false b h = h

sequenced_not : (same : Bool) (id c : List ℕ) (submission : Submission) (moment : ℕ) (m : Message) (k : ℕ) → bytes_eq id c ≡ same →
    refused c (Submit id submission moment, Sequenced m) ≡ Some k → ⊥
sequenced_not true id c submission moment m k h at = let no : None ≡ Some k = rw h at at in cc
sequenced_not false id c submission moment m k h at = let no : None ≡ Some k = rw h at at in cc

dropped_not : (same : Bool) (id c : List ℕ) (submission : Submission) (moment : ℕ) (k : ℕ) → bytes_eq id c ≡ same →
    refused c (Submit id submission moment, Dropped) ≡ Some k → ⊥
dropped_not true id c submission moment k h at = let no : None ≡ Some k = rw h at at in cc
dropped_not false id c submission moment k h at = let no : None ≡ Some k = rw h at at in cc

absorbed_not : (same : Bool) (id c : List ℕ) (submission : Submission) (moment : ℕ) (k : ℕ) → bytes_eq id c ≡ same →
    refused c (Submit id submission moment, Absorbed) ≡ Some k → ⊥
absorbed_not true id c submission moment k h at = let no : None ≡ Some k = rw h at at in cc
absorbed_not false id c submission moment k h at = let no : None ≡ Some k = rw h at at in cc

nacked_own : (same below : Bool) (id c : List ℕ) (submission : Submission) (moment : ℕ) (n : Nack) (k : ℕ) → bytes_eq id c ≡ same → is_below n.rule ≡ below →
    refused c (Submit id submission moment, Nacked n) ≡ Some k → (id ≡ c) × (is_below n.rule ≡ true)
nacked_own false below id c submission moment n k h under at = absurd (let no : None ≡ Some k = rw h at at in cc)
nacked_own true false id c submission moment n k h under at = absurd (let no : None ≡ Some k = rw (h, under) at at in cc)
nacked_own true true id c submission moment n k h under at = (same_id id c h, under)

-- an entry that is a refusal of the client, with the verdict of the rules: the client was not refused before
in_order : (ledger : Ledger) (entry : Entry) (c : List ℕ) (k : ℕ) → entry.1 ≡ verdict ledger entry.0 → refused c entry ≡ Some k → is_nacked ledger c ≡ false
unfolding verdict
in_order ledger (Join id scopes detail moment, v) c k is h = absurd (cc)
in_order ledger (Leave id moment, v) c k is h = absurd (cc)
in_order ledger (Report summary found moment, v) c k is h = absurd (cc)
in_order ledger (Submit id submission moment, Sequenced m) c k is h = absurd (sequenced_not (bytes_eq id c) id c submission moment m k refl h)
in_order ledger (Submit id submission moment, Dropped) c k is h = absurd (dropped_not (bytes_eq id c) id c submission moment k refl h)
in_order ledger (Submit id submission moment, Absorbed) c k is h = absurd (absorbed_not (bytes_eq id c) id c submission moment k refl h)
in_order ledger (Submit id submission moment, Nacked n) c k is h =
    let own = nacked_own (bytes_eq id c) (is_below n.rule) id c submission moment n k refl refl h in
    let none = or_false (not (is_joined ledger id)) (is_nacked ledger id) ((nacked-was ledger id submission moment n is).was_in_order own.1) in
    rw (sym own.0) none

nothing : (c : List ℕ) → refusals [] c ≤ 1
unfolding refusals past_of said.refusals said.tail
nothing c = omega arith

next : (ledger : Ledger) (entry : Entry) (c : List ℕ) (tells : Option ℕ) → refusals ledger c ≤ 1 → entry.1 ≡ verdict ledger entry.0 → refused c entry ≡ tells →
    refusals (ledger ++ entry ∷ []) c ≤ 1
unfolding refusals is_nacked counted
next ledger entry c None holds is at =
    let step = step_at (settles c entry) None entry (past_of ledger) c refl at in
    rw (past_of-push ledger entry) (omega (arith, step))
next ledger entry c (Some k) holds is at =
    let step = step_at (settles c entry) (Some k) entry (past_of ledger) c refl at in
    let none = not_nacked (past_of ledger) c (in_order ledger entry c k is at) in
    rw (past_of-push ledger entry) (omega (arith, step, none))

-- at most one refusal since the client joined
pub refusals-at_most_one : (ledger : Ledger) → IsLegal ledger → (c : List ℕ) → refusals ledger c ≤ 1
refusals-at_most_one ledger legal c =
    legal-induction (λ ledger. refusals ledger c ≤ 1) (nothing c)
    (λ ledger entry legal holds is. next ledger entry c (refused c entry) holds is refl) ledger legal
