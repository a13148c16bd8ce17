-- What one entry more changes of what is said of a client.
use Rattle.std.proofs.Common.{◌≡◌, ℕ, Bool, true, false, List, ◌∷◌, Option, Some, None, refl, bytes_eq}
use Rattle.fluid_types.specs.declared.entries.Raw.TheVariants.{Join, Leave, Submit, Report}
use Rattle.fluid_types.specs.declared.entries.Scopes.{Scopes}
use Rattle.fluid_types.specs.declared.entries.Submission.{Submission}
use Rattle.fluid_types.specs.declared.nacks.Nack.{Nack}
use Rattle.fluid_types.specs.declared.messages.Message.{Message}
use Rattle.fluid_types.specs.declared.verdicts.Verdict.{Verdict}
use Rattle.fluid_types.specs.declared.verdicts.Verdict.TheVariants.{Sequenced, Nacked, Dropped, Absorbed}
use Rattle.fluid_types.specs.Ledger.{seq}
use Rattle.fluid_rules.specs.Past.{Entry, Past, membership, tail, last_number, is_nacked, latest_taken, reference_from, reference, heard, entered_at, minimum, client, client_behind, latest, refused, is_below, is_sequenced}

-- a sequenced join
join_step : (b : Bool) (past : Past) (id c : List ℕ) (scopes : Scopes) (detail : _) (moment : ℕ) (m : Message) →
    bytes_eq id c ≡ b →
    client ((Join id scopes detail moment, Sequenced m) ∷ past) c
    ≡ client_behind (Join id scopes detail moment, Sequenced m) (seq past) (minimum past) c (client past c)
unfolding client membership tail last_number is_nacked latest_taken reference_from reference heard entered_at
join_step true past id c scopes detail moment m h = rw h refl
join_step false past id c scopes detail moment m h = rw h refl

leave_step : (b : Bool) (past : Past) (id c : List ℕ) (moment : ℕ) (m : Message) →
    bytes_eq id c ≡ b →
    client ((Leave id moment, Sequenced m) ∷ past) c
    ≡ client_behind (Leave id moment, Sequenced m) (seq past) (minimum past) c (client past c)
unfolding client membership tail last_number is_nacked latest_taken reference_from reference heard entered_at
leave_step true past id c moment m h = rw h refl
leave_step false past id c moment m h = rw h refl

-- a join or a leave that isn't sequenced is only heard
join_heard : (b : Bool) (past : Past) (id c : List ℕ) (scopes : Scopes) (detail : _) (moment : ℕ) (verdict : Verdict) →
    bytes_eq id c ≡ b → is_sequenced verdict ≡ false → (held : Option Scopes) → membership past c ≡ held →
    client ((Join id scopes detail moment, verdict) ∷ past) c
    ≡ client_behind (Join id scopes detail moment, verdict) (seq past) (minimum past) c (client past c)
unfolding client membership tail last_number is_nacked latest_taken reference_from reference heard entered_at
join_heard true past id c scopes detail moment verdict h other None is = rw (h, other, is) refl
join_heard true past id c scopes detail moment verdict h other (Some held) is = rw (h, other, is) refl
join_heard false past id c scopes detail moment verdict h other held is = rw (h, other) refl

leave_heard : (b : Bool) (past : Past) (id c : List ℕ) (moment : ℕ) (verdict : Verdict) →
    bytes_eq id c ≡ b → is_sequenced verdict ≡ false → (held : Option Scopes) → membership past c ≡ held →
    client ((Leave id moment, verdict) ∷ past) c
    ≡ client_behind (Leave id moment, verdict) (seq past) (minimum past) c (client past c)
unfolding client membership tail last_number is_nacked latest_taken reference_from reference heard entered_at
leave_heard true past id c moment verdict h other None is = rw (h, other, is) refl
leave_heard true past id c moment verdict h other (Some held) is = rw (h, other, is) refl
leave_heard false past id c moment verdict h other held is = rw (h, other) refl

-- a sequenced submission of the client itself
submit_own : (past : Past) (id c : List ℕ) (submission : Submission) (moment : ℕ) (m : Message) →
    bytes_eq id c ≡ true → (held : Option Scopes) → membership past c ≡ held → (below : Option ℕ) → latest (refused c) (tail past c) ≡ below →
    client ((Submit id submission moment, Sequenced m) ∷ past) c
    ≡ client_behind (Submit id submission moment, Sequenced m) (seq past) (minimum past) c (client past c)
unfolding client membership tail last_number is_nacked latest_taken reference_from reference heard entered_at
submit_own past id c submission moment m h None held below refused = rw (h, held) refl
submit_own past id c submission moment m h (Some scopes) held None refused = rw (h, held, refused) refl
submit_own past id c submission moment m h (Some scopes) held (Some k) refused = rw (h, held, refused) refl

submit_step : (b : Bool) (past : Past) (id c : List ℕ) (submission : Submission) (moment : ℕ) (m : Message) →
    bytes_eq id c ≡ b →
    client ((Submit id submission moment, Sequenced m) ∷ past) c
    ≡ client_behind (Submit id submission moment, Sequenced m) (seq past) (minimum past) c (client past c)
unfolding client membership tail last_number is_nacked latest_taken reference_from reference heard entered_at
submit_step true past id c submission moment m h =
    submit_own past id c submission moment m h (membership past c) refl (latest (refused c) (tail past c)) refl
submit_step false past id c submission moment m h = rw h refl

-- an absorbed one
absorb_own : (past : Past) (id c : List ℕ) (submission : Submission) (moment : ℕ) →
    bytes_eq id c ≡ true → (held : Option Scopes) → membership past c ≡ held → (below : Option ℕ) → latest (refused c) (tail past c) ≡ below →
    client ((Submit id submission moment, Absorbed) ∷ past) c
    ≡ client_behind (Submit id submission moment, Absorbed) (seq past) (minimum past) c (client past c)
unfolding client membership tail last_number is_nacked latest_taken reference_from reference heard entered_at
absorb_own past id c submission moment h None held below refused = rw (h, held) refl
absorb_own past id c submission moment h (Some scopes) held None refused = rw (h, held, refused) refl
absorb_own past id c submission moment h (Some scopes) held (Some k) refused = rw (h, held, refused) refl

absorb_step : (b : Bool) (past : Past) (id c : List ℕ) (submission : Submission) (moment : ℕ) →
    bytes_eq id c ≡ b →
    client ((Submit id submission moment, Absorbed) ∷ past) c
    ≡ client_behind (Submit id submission moment, Absorbed) (seq past) (minimum past) c (client past c)
unfolding client membership tail last_number is_nacked latest_taken reference_from reference heard entered_at
absorb_step true past id c submission moment h =
    absorb_own past id c submission moment h (membership past c) refl (latest (refused c) (tail past c)) refl
absorb_step false past id c submission moment h = rw h refl

-- a nack of a submission
nack_own : (past : Past) (id c : List ℕ) (submission : Submission) (moment : ℕ) (nack : Nack) →
    bytes_eq id c ≡ true → (below : Bool) → is_below nack.rule ≡ below → (held : Option Scopes) → membership past c ≡ held →
    client ((Submit id submission moment, Nacked nack) ∷ past) c
    ≡ client_behind (Submit id submission moment, Nacked nack) (seq past) (minimum past) c (client past c)
unfolding client membership tail last_number is_nacked latest_taken reference_from reference heard entered_at
nack_own past id c submission moment nack h true below None held = rw (h, held) refl
nack_own past id c submission moment nack h true below (Some scopes) held = rw (h, held, below) refl
nack_own past id c submission moment nack h false below None held = rw (h, held) refl
nack_own past id c submission moment nack h false below (Some scopes) held = rw (h, held, below) refl

nack_step : (b : Bool) (past : Past) (id c : List ℕ) (submission : Submission) (moment : ℕ) (nack : Nack) →
    bytes_eq id c ≡ b →
    client ((Submit id submission moment, Nacked nack) ∷ past) c
    ≡ client_behind (Submit id submission moment, Nacked nack) (seq past) (minimum past) c (client past c)
unfolding client membership tail last_number is_nacked latest_taken reference_from reference heard entered_at
nack_step true past id c submission moment nack h =
    nack_own past id c submission moment nack h (is_below nack.rule) refl (membership past c) refl
nack_step false past id c submission moment nack h = rw h refl

drop_step : (b : Bool) (past : Past) (id c : List ℕ) (submission : Submission) (moment : ℕ) (held : Option Scopes) →
    bytes_eq id c ≡ b → membership past c ≡ held →
    client ((Submit id submission moment, Dropped) ∷ past) c
    ≡ client_behind (Submit id submission moment, Dropped) (seq past) (minimum past) c (client past c)
unfolding client membership tail last_number is_nacked latest_taken reference_from reference heard entered_at
drop_step true past id c submission moment None h held = rw (h, held) refl
drop_step true past id c submission moment (Some scopes) h held = rw (h, held) refl
drop_step false past id c submission moment held h is = rw h refl

-- what an entry makes of what is said of a client
pub client_step : (entry : Entry) (past : Past) (c : List ℕ) → client (entry ∷ past) c ≡ client_behind entry (seq past) (minimum past) c (client past c)
unfolding client membership tail last_number is_nacked latest_taken reference_from reference heard entered_at
client_step (Join id scopes detail moment, Sequenced m) past c = join_step (bytes_eq id c) past id c scopes detail moment m refl
client_step (Join id scopes detail moment, Nacked nack) past c =
    join_heard (bytes_eq id c) past id c scopes detail moment (Nacked nack) refl refl (membership past c) refl
client_step (Join id scopes detail moment, Dropped) past c =
    join_heard (bytes_eq id c) past id c scopes detail moment Dropped refl refl (membership past c) refl
client_step (Join id scopes detail moment, Absorbed) past c =
    join_heard (bytes_eq id c) past id c scopes detail moment Absorbed refl refl (membership past c) refl
client_step (Leave id moment, Sequenced m) past c = leave_step (bytes_eq id c) past id c moment m refl
client_step (Leave id moment, Nacked nack) past c = leave_heard (bytes_eq id c) past id c moment (Nacked nack) refl refl (membership past c) refl
client_step (Leave id moment, Dropped) past c = leave_heard (bytes_eq id c) past id c moment Dropped refl refl (membership past c) refl
client_step (Leave id moment, Absorbed) past c = leave_heard (bytes_eq id c) past id c moment Absorbed refl refl (membership past c) refl
client_step (Submit id submission moment, Sequenced m) past c = submit_step (bytes_eq id c) past id c submission moment m refl
client_step (Submit id submission moment, Nacked nack) past c = nack_step (bytes_eq id c) past id c submission moment nack refl
client_step (Submit id submission moment, Dropped) past c = drop_step (bytes_eq id c) past id c submission moment (membership past c) refl refl
client_step (Submit id submission moment, Absorbed) past c = absorb_step (bytes_eq id c) past id c submission moment refl
client_step (Report summary found moment, Sequenced m) past c = refl
client_step (Report summary found moment, Nacked nack) past c = refl
client_step (Report summary found moment, Dropped) past c = refl
client_step (Report summary found moment, Absorbed) past c = refl
