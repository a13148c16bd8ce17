-- What a ledger says of its clients. All of it is read backwards: a past is a ledger from its last entry
-- back to its first.
use Rattle.std.specs.Prelude.{◌≡◌, ◌≤◌, ◌⊎◌, ℕ, zero, suc, ℤ, pos, negsuc, Bool, true, false, ◌&&◌, ◌||◌, if◌then◌else◌, List, [], ◌∷◌, map, filter, min, Option, Some, None, is_some, unwrap_or, option_map, option_and_then, bytes_eq, filter_map, length}
use Rattle.std.specs.List.{list_any, reduce}
use Rattle.std.specs.Ordering.{nat_cmp}
use Rattle.std.specs.Cmp.Lexicographic.{slice_cmp}
use Rattle.std.specs.declared.cmp.Ordering.{Ordering}
use Rattle.std.specs.declared.cmp.Ordering.TheVariants.{Less, Equal, Greater}
use Rattle.fluid_types.specs.declared.entries.Raw.{Raw}
use Rattle.fluid_types.specs.declared.entries.Raw.TheVariants.{Join, Leave, Submit, Report}
use Rattle.fluid_types.specs.declared.entries.Scopes.{Scopes}
use Rattle.fluid_types.specs.declared.entries.Submission.{Submission}
use Rattle.fluid_types.specs.declared.nacks.NackRule.{NackRule}
use Rattle.fluid_types.specs.declared.nacks.NackRule.TheVariants.{Gap, Nonexistent, Below, Ahead, Scope, Unread, NotConnected, ForeignClient, ReadOnly, Full}
use Rattle.fluid_types.specs.declared.verdicts.Verdict.{Verdict}
use Rattle.fluid_types.specs.declared.verdicts.Verdict.TheVariants.{Sequenced, Nacked, Dropped, Absorbed}
use Rattle.fluid_types.specs.Ledger.{seq}

-- one entry of a ledger: what was handed in, and its verdict
abbrev pub Entry : Type 0
Entry = Raw × Verdict

-- entries, newest first
abbrev pub Past : Type 0
Past = List Entry

-- ---- one entry

abbrev pub is_sequenced : Verdict → Bool
is_sequenced (Sequenced message) = true
is_sequenced (Nacked nack) = false
is_sequenced Dropped = false
is_sequenced Absorbed = false

-- the rule that refuses a reference below the minimum
abbrev pub is_below : NackRule → Bool
is_below Gap = false
is_below Nonexistent = false
is_below Below = true
is_below Ahead = false
is_below Scope = false
is_below (Unread fault) = false
is_below NotConnected = false
is_below ForeignClient = false
is_below ReadOnly = false
is_below Full = false

-- a signed number as a count. No number that is read here is negative in a legal ledger
abbrev pub count_of : ℤ → ℕ
count_of (pos n) = n
count_of (negsuc n) = 0

-- -1: the client leaves its reference to the service
abbrev pub leaves_reference : ℤ → Bool
leaves_reference (pos n) = false
leaves_reference (negsuc zero) = true
leaves_reference (negsuc (suc n)) = false

-- a reference as a count, with -1 read as this number
abbrev pub read_as : ℕ → ℤ → ℕ
read_as number reference = if leaves_reference reference then number else count_of reference

-- the scopes of a join of this client
abbrev pub joining : List ℕ → Raw → Option Scopes
joining c (Join id scopes detail moment) = if bytes_eq id c then Some scopes else None
joining c (Leave id moment) = None
joining c (Submit id submission moment) = None
joining c (Report summary found moment) = None

-- a leave of this client
abbrev pub is_leave : List ℕ → Raw → Bool
is_leave c (Join id scopes detail moment) = false
is_leave c (Leave id moment) = bytes_eq id c
is_leave c (Submit id submission moment) = false
is_leave c (Report summary found moment) = false

-- a submission of this client
abbrev pub submitting : List ℕ → Raw → Option Submission
submitting c (Join id scopes detail moment) = None
submitting c (Leave id moment) = None
submitting c (Submit id submission moment) = if bytes_eq id c then Some submission else None
submitting c (Report summary found moment) = None

-- the moment of an entry of this client: a join, a leave or a submission of it
abbrev pub speaking : List ℕ → Raw → Option ℕ
speaking c (Join id scopes detail moment) = if bytes_eq id c then Some moment else None
speaking c (Leave id moment) = if bytes_eq id c then Some moment else None
speaking c (Submit id submission moment) = if bytes_eq id c then Some moment else None
speaking c (Report summary found moment) = None

-- a sequenced join of this client, with its scopes
abbrev pub joins : List ℕ → Entry → Option Scopes
joins c entry = if is_sequenced entry.1 then joining c entry.0 else None

-- a sequenced join or leave of this client
abbrev pub settles : List ℕ → Entry → Bool
settles c entry = is_sequenced entry.1 && (is_some (joining c entry.0) || is_leave c entry.0)

-- the reference that a submission brings: where it was sequenced, that in its message; where it was absorbed, its own, with -1 read
-- as the last sequence number before it
abbrev pub taken_at : ℕ → Submission → Verdict → Option ℕ
taken_at sequence submission (Sequenced message) = Some (count_of message.reference)
taken_at sequence submission (Nacked nack) = None
taken_at sequence submission Dropped = None
taken_at sequence submission Absorbed = Some (read_as sequence submission.reference)

-- the verdict is a nack for a reference below the minimum: the minimum that it names
abbrev pub refused_at : Verdict → Option ℕ
refused_at (Sequenced message) = None
refused_at (Nacked nack) = if is_below nack.rule then Some (count_of nack.minimum) else None
refused_at Dropped = None
refused_at Absorbed = None

-- a verdict that uses up the client number of a submission: sequenced, absorbed, or refused as below the minimum
abbrev pub counts : Verdict → Bool
counts (Sequenced message) = true
counts (Nacked nack) = is_below nack.rule
counts Dropped = false
counts Absorbed = true

-- of a submission of this client: its client number where it was sequenced, absorbed or refused as below the minimum,
-- the reference that it brings where it was sequenced or absorbed, and the minimum where it was refused as below it
abbrev pub counted : List ℕ → Entry → Option ℕ
counted c entry = option_and_then (λ submission. if counts entry.1 then Some submission.client_number else None) (submitting c entry.0)

abbrev pub taken : ℕ → List ℕ → Entry → Option ℕ
taken sequence c entry = option_and_then (λ submission. taken_at sequence submission entry.1) (submitting c entry.0)

abbrev pub refused : List ℕ → Entry → Option ℕ
refused c entry = if is_some (submitting c entry.0) then refused_at entry.1 else None

-- ---- the past

-- what the latest entry tells that tells something
abbrev pub latest : {X : Type 0} → (Entry → Option X) → Past → Option X
latest tells [] = None
latest tells (entry ∷ past) = if is_some (tells entry) then tells entry else latest tells past

-- the scopes with which a client is joined: its last sequenced join or leave is a join
unfoldable pub membership : Past → List ℕ → Option Scopes
membership [] c = None
membership (entry ∷ past) c = if settles c entry then joins c entry else membership past c

abbrev pub is_joined : Past → List ℕ → Bool
is_joined past c = is_some (membership past c)

-- the tail of a client: the entries behind its last sequenced join or leave. What follows reads the tail alone
unfoldable pub tail : Past → List ℕ → Past
tail [] c = []
tail (entry ∷ past) c = if settles c entry then [] else entry ∷ tail past c

-- the client number of its latest submission that counts; 0 where there is none
unfoldable pub last_number : Past → List ℕ → ℕ
last_number past c = unwrap_or (latest (counted c) (tail past c)) 0

-- a submission of it was refused as below the minimum
unfoldable pub is_nacked : Past → List ℕ → Bool
is_nacked past c = is_some (latest (refused c) (tail past c))

-- how many submissions were refused as below the minimum
unfoldable pub refusals : Past → List ℕ → ℕ
refusals past c = length (filter_map (refused c) (tail past c))

-- the reference of its latest submission that was sequenced or absorbed
unfoldable pub latest_taken : Past → List ℕ → Option ℕ
latest_taken [] c = None
latest_taken (entry ∷ past) c =
    if settles c entry then None else (if is_some (taken (seq past) c entry) then taken (seq past) c entry else latest_taken past c)

-- the reference of a client that entered at this one: the minimum of its latest refusal as below it, or else the
-- reference of its latest submission that was sequenced or absorbed, or else the one at which it entered
unfoldable pub reference_from : ℕ → Past → List ℕ → ℕ
reference_from entering past c = unwrap_or (latest (refused c) (tail past c)) (unwrap_or (latest_taken past c) entering)

-- the moment of a client's latest entry, whatever its verdict; that of a joined client is its join or one behind it
unfoldable pub heard : Past → List ℕ → ℕ
heard past c = unwrap_or (latest (λ entry. speaking c entry.0) past) 0

-- the id is one of these
abbrev pub has_id : List ℕ → List (List ℕ) → Bool
has_id c ids = list_any (bytes_eq c) ids

-- the id stands before each of these in byte order
abbrev pub IsBelowEach : List ℕ → List (List ℕ) → Type 0
IsBelowEach c [] = Unit {0}
IsBelowEach c (id ∷ ids) = (slice_cmp nat_cmp c id ≡ Less) × IsBelowEach c ids

-- ids in byte order, each once
abbrev pub AreInOrder : List (List ℕ) → Type 0
AreInOrder [] = Unit {0}
AreInOrder (id ∷ ids) = IsBelowEach id ids × AreInOrder ids

-- an id beside the first of some ids, by how the two compare: before it, the same, or among the rest
abbrev pub put_at : Ordering → List ℕ → List ℕ → List (List ℕ) → List (List ℕ) → List (List ℕ)
put_at Less c id ids rest = c ∷ (id ∷ ids)
put_at Equal c id ids rest = id ∷ ids
put_at Greater c id ids rest = id ∷ rest

-- puts an id into ids in byte order, where it isn't among them
unfoldable pub put_id : List ℕ → List (List ℕ) → List (List ℕ)
put_id c [] = c ∷ []
put_id c (id ∷ ids) = put_at (slice_cmp nat_cmp c id) c id ids (put_id c ids)

-- the ids that an entry adds to those that ever joined
abbrev pub with_joining : Entry → List (List ℕ) → List (List ℕ)
with_joining (Join id scopes detail moment, verdict) ids = if is_sequenced verdict then put_id id ids else ids
with_joining (Leave id moment, verdict) ids = ids
with_joining (Submit id submission moment, verdict) ids = ids
with_joining (Report summary found moment, verdict) ids = ids

-- the ids that ever joined, in byte order, each once
unfoldable pub ever_joined : Past → List (List ℕ)
ever_joined [] = []
ever_joined (entry ∷ past) = with_joining entry (ever_joined past)

-- the joined ids, in byte order
unfoldable pub joined : Past → List (List ℕ)
joined past = filter (is_joined past) (ever_joined past)

-- the least of some numbers, or another one where there is none
abbrev pub least_or : ℕ → List ℕ → ℕ
least_or other numbers = unwrap_or (reduce min numbers) other

-- the reference with which a client entered, which is the minimum of the entries before its join; and the
-- minimum, which is the least reference of a joined client, or the last sequence number where nobody is joined
unfoldable mutual
  pub entered_at : Past → List ℕ → ℕ
  entered_at [] c = 0
  entered_at (entry ∷ past) c = if is_some (joins c entry) then minimum past else entered_at past c

  pub minimum : Past → ℕ
  minimum [] = 0
  minimum (entry ∷ past) =
      least_or (seq (entry ∷ past))
      (map (λ c. reference_from (if is_some (joins c entry) then minimum past else entered_at past c) (entry ∷ past) c) (joined (entry ∷ past)))

-- the reference of a joined client
unfoldable pub reference : Past → List ℕ → ℕ
reference past c = reference_from (entered_at past c) past c

-- what a past says of a joined client: its last client number, its reference, whether it was refused as below the
-- minimum, its scopes, and the moment at which it was last heard of
pub record Client : Type 0 where
  pub last : ℕ
  pub reference : ℕ
  pub nacked : Bool
  pub scopes : Scopes
  pub heard : ℕ

-- nothing is said of a client that isn't joined
unfoldable pub client : Past → List ℕ → Option Client
client past c =
    option_map
    (λ scopes. record {
      last = last_number past c;
      reference = reference past c;
      nacked = is_nacked past c;
      scopes = scopes;
      heard = heard past c;
    })
    (membership past c)

-- a number is the least reference among the clients of whom something is said, and the last sequence number
-- where nothing is said of anybody
pub record IsLeast (said : List ℕ → Option Client) (sequence least : ℕ) : Type 0 where
  pub below : (c : List ℕ) (client : Client) → said c ≡ Some client → least ≤ client.reference
  pub reached :
      ((c : List ℕ) × ((client : Client) × ((said c ≡ Some client) × (least ≡ client.reference))))
      ⊎ (((c : List ℕ) → said c ≡ None) × (least ≡ sequence))

-- ---- one entry more

-- a client that takes a number brings this reference with it, unless it was refused as below the minimum
abbrev pub client_taking : ℕ → ℕ → Client → Client
client_taking number reference client = record client { last = number; reference = if client.nacked then client.reference else reference }

-- a submission of a joined client behind this last sequence number: one that was sequenced or absorbed counts, and brings its
-- reference; one that is refused as below the minimum counts, and holds the client there
abbrev pub client_submitting : ℕ → Submission → Verdict → Client → Client
client_submitting sequence submission (Sequenced message) client = client_taking submission.client_number (count_of message.reference) client
client_submitting sequence submission (Nacked nack) client =
    if is_below nack.rule
    then record client { last = submission.client_number; reference = count_of nack.minimum; nacked = true }
    else client
client_submitting sequence submission Dropped client = client
client_submitting sequence submission Absorbed client = client_taking submission.client_number (read_as sequence submission.reference) client

-- a client that was heard of at a moment
abbrev pub client_heard : ℕ → Client → Client
client_heard moment client = record client { heard = moment }

-- what is said of a client behind an entry, from the last sequence number, the minimum and what was said of it before: its own
-- entry is heard, whatever its verdict
abbrev pub client_behind : Entry → ℕ → ℕ → List ℕ → Option Client → Option Client
client_behind (Join id scopes detail moment, verdict) sequence minimum c client =
    if bytes_eq id c
    then
    (if is_sequenced verdict
    then Some (record { last = 0; reference = minimum; nacked = false; scopes = scopes; heard = moment })
    else option_map (client_heard moment) client)
    else client
client_behind (Leave id moment, verdict) sequence minimum c client =
    if bytes_eq id c then (if is_sequenced verdict then None else option_map (client_heard moment) client) else client
client_behind (Submit id submission moment, verdict) sequence minimum c client =
    if bytes_eq id c then option_map (λ client. client_heard moment (client_submitting sequence submission verdict client)) client else client
client_behind (Report summary found moment, verdict) sequence minimum c client = client
