-- What is read of a content, and of the entries of a tree.
use Rattle.std.proofs.Common.{◌≡◌, ℕ, ◌+◌, ◌<◌, ◌⊎◌, inl, inr, Bool, true, false, not, ◌&&◌, if◌then◌else◌, List, [], ◌∷◌, length, get_or, drop, Option, Some, None, is_some, Result, Ok, Err, refl, sym, ap, subst, ◌∙◌}
use Rattle.std.specs.Result.{IsErrAnd}
use Rattle.std.specs.FinMap.{empty, get, insert}
use Rattle.std.proofs.lemmas.Bool.{false≢true}
use Rattle.std.proofs.lemmas.List.{at_drop_more}
use Rattle.fluid_json.specs.Unless.{IsUnless}
use Rattle.fluid_table.specs.Table.{Table}
use Rattle.fluid_types.specs.Names.{is_name, IsName, read_name}
use Rattle.fluid_types.specs.declared.names.NameFault.{NameFault}
use Rattle.fluid_types.specs.declared.names.NameFault.TheVariants.{BadName, NoMemory as NoNameMemory}
use Rattle.fluid_types.specs.declared.fault.BlobFault.{BlobFault}
use Rattle.fluid_types.specs.declared.fault.BlobFault.TheVariants.{NoMemory, BadBlob}
use Rattle.fluid_tree.specs.Summary.{Summary, Children, children, as_children}
use Rattle.fluid_map.specs.Replay as map
use Rattle.fluid_map.specs.Content as map_content
use Rattle.fluid_edits.specs.declared.edit.ChannelKind.TheVariants.{Map}
use Rattle.fluid_edits.specs.Replay.{Channel, a_map, Channels}
use Rattle.fluid_runtime.specs.App.{AnApp, loaded, loaded_if}
use Rattle.fluid_runtime.specs.AppTree.{channel_in, channel_answer, subtree, entry_answer, channels_answer, tree_answer, answer, ◌>>=◌}
use Rattle.fluid_runtime.specs.Slots.{Slots, channel_of, channel_of_object, channels_of, AreNamed, IsQuiet, IsSound, IsTold}
use Rattle.fluid_runtime.specs.Loaded.{read_slots}
use Rattle.fluid_runtime.specs.declared.slots.Object.{Object}
use Rattle.fluid_runtime.specs.declared.slots.Slot.{Slot}
use Rattle.fluid_runtime.proofs.Each.{get_each, each_inserted, each_empty}
use Rattle.fluid_runtime.proofs.Told.{some_mapped, told_sound, told_named}

map_read : Result map.Shared BlobFault → Option Channel
map_read (Ok shared) = Some (a_map shared.acknowledged)
map_read (Err fault) = None

map_answer : (content : List ℕ) (b : Bool) (values : map.Values) (fault : BlobFault)
    → map_read (if b then Ok (record { acknowledged = values; pending = [] }) else Err fault) ≡ (if b then Some (a_map values) else None)
unfolding map_read
map_answer content true values fault = refl
map_answer content false values fault = refl

pub map_found : (content : List ℕ) (shared : map.Shared) → IsUnless NoMemory (Ok shared) (map_content.answer content) → Some (a_map shared.acknowledged) ≡ channel_in Map content
unfolding map_read
map_found content shared (inl is) = cc
map_found content shared (inr is) = ap map_read is ∙ map_answer content (map_content.is_content content) (map_content.values_in content) map_content.bad_content

pub map_refused : (content path : List ℕ) → IsUnless NoMemory (Err (BadBlob path)) (map_content.answer content) → None ≡ channel_in Map content
unfolding map_read
map_refused content path (inl is) = cc
map_refused content path (inr is) = ap map_read is ∙ map_answer content (map_content.is_content content) (map_content.values_in content) map_content.bad_content

-- ---- an entry

same_stands : (slots : Slots) (at : List ℕ) → is_some (get (channels_of slots) at) ≡ is_some (get slots at)
same_stands slots at = ap is_some (get_each channel_of slots at) ∙ some_mapped channel_of (get slots at)

refused : (named stands : Bool) (one : Result Channel BlobFault) (at : List ℕ) → stands ≡ true → (if named && not stands then one else Err (BadBlob at)) ≡ Err (BadBlob at)
refused true true one at is = refl
refused true false one at is = absurd (false≢true is)
refused false stands one at is = refl

-- an address that has a channel already
pub stands_already : (slots : Slots) (at : List ℕ) (s : Summary) (fault : BlobFault) → is_some (get slots at) ≡ true → (fault ≡ NoMemory) ⊎ (fault ≡ BadBlob at)
    → IsUnless NoMemory (Err fault) (entry_answer (channels_of slots) at s)
stands_already slots at s fault is (inl e) = inl (ap Err e)
stands_already slots at s fault is (inr e) = inr (ap Err e ∙ sym (refused (is_name at) (is_some (get (channels_of slots) at)) (subtree at (as_children s)) at (same_stands slots at ∙ is)))

by_name : (b : Bool) (at own : List ℕ) → ◌≡◌ {A = Result (List ℕ) NameFault} (Ok own) (if b then Ok at else Err BadName) → b ≡ true
by_name true at own is = refl
by_name false at own is = cc

pub name_read : (at own : List ℕ) → IsUnless NoNameMemory (Ok own) (read_name at) → is_name at ≡ true
name_read at own (inl is) = cc
name_read at own (inr is) = by_name (is_name at) at own is

admitted : (named stands : Bool) (one : Result Channel BlobFault) (at : List ℕ) → named ≡ true → stands ≡ false → (if named && not stands then one else Err (BadBlob at)) ≡ one
admitted true false one at is none = refl
admitted true true one at is none = absurd (false≢true (sym none))
admitted false stands one at is none = absurd (false≢true is)

-- a tree under an address that has no channel yet
pub entry_read : (slots : Slots) (at : List ℕ) (s : Summary) (cs : Children) (r : Result Channel BlobFault) → is_name at ≡ true → is_some (get slots at) ≡ false → Some cs ≡ as_children s
    → IsUnless NoMemory r (channel_answer at cs) → IsUnless NoMemory r (entry_answer (channels_of slots) at s)
entry_read slots at s cs r name none is answered =
    subst (IsUnless NoMemory r)
    (ap (subtree at) is ∙ sym (admitted (is_name at) (is_some (get (channels_of slots) at)) (subtree at (as_children s)) at name (same_stands slots at ∙ none))) answered

-- ---- the entries, one after the other

pub entries_begin : (s : Summary) (es : List (List ℕ × Summary)) (slots : Slots) → slots ≡ empty → Some (children es) ≡ as_children s
    → channels_answer (channels_of slots) (children es) ≡ answer s
unfolding answer
entries_begin s es slots none is = ap (λ c. channels_answer c (children es)) (ap channels_of none ∙ each_empty channel_of) ∙ ap tree_answer is

at_next : (channels : Channels) (es : List (List ℕ × Summary)) (n : ℕ) (e : List ℕ × Summary) → n < length es → e ≡ get_or es n e
    → channels_answer channels (children (drop n es)) ≡ (entry_answer channels e.0 e.1 >>= λ channel. channels_answer (insert channels e.0 channel) (children (drop (n + 1) es)))
at_next channels es n e within is = at_drop_more (λ l. channels_answer channels (children l)) es n e within ∙ ap (λ x. channels_answer channels (children (x ∷ drop (n + 1) es))) (sym is)

ok_read : (channel : Channel) (r : Result Channel BlobFault) → IsUnless NoMemory (Ok channel) r → r ≡ Ok channel
ok_read channel r (inl is) = cc
ok_read channel r (inr is) = sym is

pub entry_goes : (slots behind : Slots) (es : List (List ℕ × Summary)) (n : ℕ) (e : List ℕ × Summary) (name : List ℕ) (object : Object) (wanted : Result Channels BlobFault) → n < length es
    → e ≡ get_or es n e → name ≡ e.0 → behind ≡ insert slots name (record { object = object; last = 0 })
    → IsUnless NoMemory (Ok (channel_of_object object)) (entry_answer (channels_of slots) e.0 e.1)
    → channels_answer (channels_of slots) (children (drop n es)) ≡ wanted → channels_answer (channels_of behind) (children (drop (n + 1) es)) ≡ wanted
entry_goes slots behind es n e name object wanted within is own put read so_far =
    let slot : Slot = record { object = object; last = 0 } in
    let all : channels_of behind ≡ insert (channels_of slots) e.0 (channel_of_object object) =
    ap channels_of put ∙ each_inserted channel_of slots name slot ∙ ap (λ k. insert (channels_of slots) k (channel_of_object object)) own in
    ap (λ c. channels_answer c (children (drop (n + 1) es))) all
    ∙ sym (at_next (channels_of slots) es n e within is ∙ ap (λ r. r >>= λ channel. channels_answer (insert (channels_of slots) e.0 channel) (children (drop (n + 1) es))) (ok_read _ _ read))
    ∙ so_far

entry_put : (slots behind : Slots) (name : List ℕ) (object : Object) → behind ≡ insert slots name (record { object = object; last = 0 }) → IsQuiet 0 object → IsName name
    → IsTold 0 name slots behind (Some (channel_of_object object))
entry_put slots behind name object put quiet named =
    record { slot = record { object = object; last = 0 }; named = named; put = put; holds = refl; counted = refl; quiet = quiet }

pub entry_named : (slots behind : Slots) (name : List ℕ) (object : Object) → behind ≡ insert slots name (record { object = object; last = 0 }) → IsQuiet 0 object → IsName name → AreNamed slots → AreNamed behind
entry_named slots behind name object put quiet name_is named =
    told_named 0 name slots behind (Some (channel_of_object object)) named (entry_put slots behind name object put quiet name_is)

pub entry_sound : (slots behind : Slots) (name : List ℕ) (object : Object) → behind ≡ insert slots name (record { object = object; last = 0 }) → IsQuiet 0 object → IsName name → IsSound 0 slots → IsSound 0 behind
entry_sound slots behind name object put quiet name_is sound =
    told_sound 0 name slots behind (Some (channel_of_object object)) sound (entry_put slots behind name object put quiet name_is)

failed_on : (fault : BlobFault) (r : Result Channel BlobFault) (rest : Channel → Result Channels BlobFault) → IsUnless NoMemory (Err fault) r → IsUnless NoMemory (Err fault) (r >>= rest)
failed_on fault r rest (inl is) = inl (let same : fault ≡ NoMemory = cc in ap Err same)
failed_on fault r rest (inr is) = inr (ap (λ x. x >>= rest) is)

handed_on : (r : Result (Table Slot) BlobFault) (fault : BlobFault) (x : Result Channels BlobFault) → IsErrAnd r (λ e. e ≡ fault) → IsUnless NoMemory (Err fault) x → IsUnless NoMemory (read_slots r) x
handed_on (Ok slots) fault x h is = absurd h
handed_on (Err e) fault x h is = subst (λ f. IsUnless NoMemory (Err f) x) (sym h) is

pub entry_fails : (slots : Slots) (es : List (List ℕ × Summary)) (n : ℕ) (e : List ℕ × Summary) (fault : BlobFault) (r : Result (Table Slot) BlobFault) (wanted : Result Channels BlobFault) → n < length es
    → e ≡ get_or es n e → IsErrAnd r (λ f. f ≡ fault) → IsUnless NoMemory (Err fault) (entry_answer (channels_of slots) e.0 e.1)
    → channels_answer (channels_of slots) (children (drop n es)) ≡ wanted → IsUnless NoMemory (read_slots r) wanted
entry_fails slots es n e fault r wanted within is handed read so_far =
    handed_on r fault wanted handed
    (subst (IsUnless NoMemory (Err fault)) (sym (at_next (channels_of slots) es n e within is) ∙ so_far)
    (failed_on fault (entry_answer (channels_of slots) e.0 e.1) (λ channel. channels_answer (insert (channels_of slots) e.0 channel) (children (drop (n + 1) es))) read))

-- ---- the app of what was read

pub app_read : (slots : Slots) (app : AnApp) (r : Result Channels BlobFault) → app ≡ loaded (channels_of slots) → IsUnless NoMemory (Ok (channels_of slots)) r → IsUnless NoMemory (Ok app) (loaded_if r)
app_read slots app r is (inl e) = cc
app_read slots app r is (inr e) = inr (ap Ok is ∙ ap loaded_if e)
