-- The channels that an order's messages make can be kept in a summary, where each message is read back from its text.
use Rattle.std.proofs.Common.{◌≡◌, ◌⊎◌, inl, inr, ℕ, ℤ, suc, ◌+◌, ◌*◌, ◌^◌, ◌≤◌, ◌<◌, ◌+ℤ◌, unsigned_abs, Bool, true, false, cond, List, [], ◌∷◌, length, get_or, Option, Some, None, Result, Ok, Err, MatchOption, bytes_eq, codes, refl, sym, subst, ◌∙◌, arith}
use Rattle.std.specs.Prelude.{IfSome, option_and_then, IsUtf8}
use Rattle.std.proofs.lemmas.Slice.Eq.{bytes_eq-Decides}
use Rattle.std.specs.List.{All, filter_map, cons_option}
use Rattle.std.specs.FinMap.{empty, entries, get, insert, remove, values, get-empty}
use Rattle.std.proofs.lemmas.Bool.{leb-true}
use Rattle.std.proofs.lemmas.Int.{ints}
use Rattle.std.proofs.lemmas.List.{get_or-map, length-map}
use Rattle.fluid_json.specs.Tree.{Tree, null, boolean, whole, text, list, object, Members, no_members, member, depth, members_depth, IsCanonical, HasCanonical, find_member, find, as_text}
use Rattle.fluid_json.specs.Spelled.{answer}
use Rattle.fluid_json.specs.declared.fault.JsonFault.{JsonFault}
use Rattle.fluid_table.specs.Table.{byte_order, Values}
use Rattle.fluid_table.proofs.Places.{get_inserted, get_removed}
use Rattle.fluid_types.specs.Contents.{read_or, body_of, body}
use Rattle.fluid_types.specs.Names.{IsName, is_name}
use Rattle.fluid_types.specs.Texts.{name_of}
use Rattle.fluid_types.specs.Printed.{message_printed}
use Rattle.fluid_types.specs.Spellings.{IsMember}
use Rattle.fluid_types.specs.declared.fault.Field.{Field}
use Rattle.fluid_types.specs.declared.fault.Field.TheVariants as field
use Rattle.fluid_types.specs.declared.messages.Kind.{Kind}
use Rattle.fluid_types.specs.declared.messages.Kind.TheVariants as kind
use Rattle.fluid_types.specs.declared.messages.Message.{Message}
use Rattle.fluid_codec.proofs.Spelled.{messages_are_spelled}
use Rattle.fluid_readback.proofs.Values.{values_are_bounded}
use Rattle.fluid_readback.proofs.Each.{Each, then_some}
use Rattle.fluid_readback.specs.Quorums.{IsReadAsItself}
use Rattle.fluid_map.specs.Content as map_content
use Rattle.fluid_edits.specs.declared.edit.ChannelKind.{ChannelKind}
use Rattle.fluid_edits.specs.declared.edit.ChannelKind.TheVariants.{Map, Counter}
use Rattle.fluid_edits.specs.declared.edit.Edit.{Edit}
use Rattle.fluid_edits.specs.declared.edit.Edit.TheVariants.{Attach, Set, Delete, Clear, Increment}
use Rattle.fluid_edits.specs.Forms.{address_of, is_in_range, text_at, name_at, is_attach, kind_named, verb_named, attaching, plain, plain_value, setting, deleting, incrementing, by_verb, spoken, speaking, edit_in, of_op, edit_of}
use Rattle.fluid_edits.specs.Replay.{Channel, a_map, a_counter, Channels, fresh, told, put_if_any, after, replay_edits, replay}
use Rattle.fluid_runtime.specs.Laws.{IsStorable}
use Rattle.fluid_runtime.proofs.Nodes.{found_there}

-- ---- values

-- the value is one as it is kept, and at most so deep
pub record IsWithin (deep : ℕ) (t : Tree) : Type 0 where
  pub canonical : IsCanonical t
  pub shallow : depth t ≤ deep

within_more : (few many : ℕ) (t : Tree) → few ≤ many → IsWithin few t → IsWithin many t
within_more few many t le h = record { canonical = h.canonical; shallow = omega (arith, le, h.shallow) }

in_members : (deep : ℕ) (k : List ℕ) (ms : Members) (v : Tree) → find_member k ms ≡ Some v → HasCanonical ms → members_depth ms ≤ deep → IsWithin deep v
in_members deep k no_members v h c d = cc
in_members deep k (member l t ms) v h c d = of (bytes_eq k l) h (λ g. in_members deep k ms v g c.1.1 (omega (arith, d)))
  where
    of : (b : Bool) → cond b (Some t) (find_member k ms) ≡ Some v → (find_member k ms ≡ Some v → IsWithin deep v) → IsWithin deep v
    of true h again = let same : t ≡ v = cc in subst (IsWithin deep) same (record { canonical = c.1.0; shallow = omega (arith, d) })
    of false h again = again h

found : (deep : ℕ) (k : List ℕ) (t v : Tree) → IsWithin (suc deep) t → find k t ≡ Some v → IsWithin deep v
found deep k (object ms) v h f = in_members deep k ms v f h.canonical (omega (arith, h.shallow))
found deep k null v h f = cc
found deep k (boolean b) v h f = cc
found deep k (whole n) v h f = cc
found deep k (text s) v h f = cc
found deep k (list ts) v h f = cc

answered : (s : List ℕ) (t : Tree) → answer s ≡ Ok t → IsWithin 100 t
answered s t h = let bounds = values_are_bounded s t h in record { canonical = bounds.canonical; shallow = bounds.shallow }

-- ---- the edit that a message spells

in_message : (t v : Tree) (f : Field) → IsWithin 100 t → IsMember t f v → IsWithin 99 v
in_message t v f h m = of (find (name_of f) t) refl m
  where
    of : (o : Option Tree) → find (name_of f) t ≡ o → MatchOption o (v ≡ null) (λ w. v ≡ w) → IsWithin 99 v
    of None e m = subst (IsWithin 99) (sym m) (record { canonical = tt; shallow = omega arith })
    of (Some w) e m = subst (IsWithin 99) (sym m) (found 99 (name_of f) t w h e)

contents_within : (m : Message) → IsReadAsItself m → IsWithin 99 m.contents
contents_within m h =
    let spelled = (messages_are_spelled (message_printed m) m).0 h in
    in_message spelled.0 m.contents field.Contents (answered (message_printed m) spelled.0 spelled.1) spelled.2.its_contents

read_within : (contents : Tree) (s : List ℕ) (r : Result Tree JsonFault) → answer s ≡ r → IsWithin 100 contents → IsWithin 100 (read_or contents r)
read_within contents s (Ok t) e h = answered s t e
read_within contents s (Err fault) e h = h

body_within : (contents : Tree) → IsWithin 100 contents → IsWithin 100 (body contents)
unfolding body
body_within contents h = of (as_text contents)
  where
    of : (o : Option (List ℕ)) → IsWithin 100 (body_of contents o)
    of None = h
    of (Some s) = read_within contents s (answer s) refl h

-- its address is a name, and the value that it sets at most 99 deep
abbrev pub IsKeptEdit : Edit → Type 0
IsKeptEdit (Attach address kind) = IsName address
IsKeptEdit (Set address key value) = IsName address × IsWithin 99 value
IsKeptEdit (Delete address key) = IsName address
IsKeptEdit (Clear address) = IsName address
IsKeptEdit (Increment address amount) = IsName address

named : (s id : List ℕ) (b : Bool) → is_name s ≡ b → cond b (Some s) None ≡ Some id → IsName id
named s id true e h = let same : s ≡ id = cc in subst IsName same e
named s id false e h = cc

name_kept : (k : List ℕ) (t : Tree) (address : List ℕ) → name_at k t ≡ Some address → IsName address
name_kept k t address h = let s = then_some (λ s. cond (is_name s) (Some s) None) (text_at k t) address h in named s.0 address (is_name s.0) refl s.2

attach_kept : (address : List ℕ) (t : Tree) (e : Edit) → IsName address → attaching address t ≡ Some e → IsKeptEdit e
attach_kept address t e name h =
    let word = then_some _ (text_at (codes "kind") t) e h in
    let kind = then_some (λ k. Some (Attach address k)) (kind_named word.0) e word.2 in
    let is : Attach address kind.0 ≡ e = let k = kind.2 in cc in
    subst IsKeptEdit is name

plain_within : (t v : Tree) → IsWithin 98 t → plain t ≡ Some v → IsWithin 97 v
plain_within t v h is = let word = then_some _ (text_at (codes "type") t) v is in by_word (bytes_eq word.0 (codes "Plain")) word.2
  where
    by_word : (b : Bool) → cond b (find (codes "value") t) None ≡ Some v → IsWithin 97 v
    by_word true k = found 97 (codes "value") t v h k
    by_word false k = cc

set_kept : (address : List ℕ) (t : Tree) (e : Edit) → IsName address → IsWithin 99 t → setting address t ≡ Some e → IsKeptEdit e
set_kept address t e name h is =
    let key = then_some _ (text_at (codes "key") t) e is in
    let value = then_some (λ v. Some (Set address key.0 v)) (plain_value t) e key.2 in
    let holder = then_some plain (find (codes "value") t) value.0 value.1 in
    let within = plain_within holder.0 value.0 (found 98 (codes "value") t holder.0 h holder.1) holder.2 in
    let same : Set address key.0 value.0 ≡ e = let k = value.2 in cc in
    subst IsKeptEdit same (name, within_more 97 99 value.0 (omega arith) within)

delete_kept : (address : List ℕ) (t : Tree) (e : Edit) → IsName address → deleting address t ≡ Some e → IsKeptEdit e
delete_kept address t e name is =
    let key = then_some (λ k. Some (Delete address k)) (text_at (codes "key") t) e is in
    let same : Delete address key.0 ≡ e = let k = key.2 in cc in
    subst IsKeptEdit same name

increment_kept : (address : List ℕ) (t : Tree) (e : Edit) → IsName address → incrementing address t ≡ Some e → IsKeptEdit e
increment_kept address t e name is =
    let value = then_some _ (find (codes "incrementAmount") t) e is in
    let amount = then_some (λ a. Some (Increment address a)) _ e value.2 in
    let same : Increment address amount.0 ≡ e = let k = amount.2 in cc in
    subst IsKeptEdit same name

pub picked_verb : {V : Type 0} (f : V → Option Edit) (a b c d : V) (p q r s : Bool) (e : Edit) → option_and_then f (cond p (Some a) (cond q (Some b) (cond r (Some c) (cond s (Some d) None)))) ≡ Some e
    → (f a ≡ Some e) ⊎ ((f b ≡ Some e) ⊎ ((f c ≡ Some e) ⊎ (f d ≡ Some e)))
picked_verb f a b c d true q r s e h = inl h
picked_verb f a b c d false true r s e h = inr (inl h)
picked_verb f a b c d false false true s e h = inr (inr (inl h))
picked_verb f a b c d false false false true e h = inr (inr (inr h))
picked_verb f a b c d false false false false e h = cc

form_kept : (address : List ℕ) (t : Tree) (e : Edit) → IsName address → IsWithin 99 t
    → (setting address t ≡ Some e) ⊎ ((deleting address t ≡ Some e) ⊎ ((Some (Clear address) ≡ Some e) ⊎ (incrementing address t ≡ Some e))) → IsKeptEdit e
form_kept address t e name h (inl is) = set_kept address t e name h is
form_kept address t e name h (inr (inl is)) = delete_kept address t e name is
form_kept address t e name h (inr (inr (inl is))) = let same : Clear address ≡ e = cc in subst IsKeptEdit same name
form_kept address t e name h (inr (inr (inr is))) = increment_kept address t e name is

speak_kept : (address : List ℕ) (t : Tree) (e : Edit) → IsName address → IsWithin 100 t → speaking address t ≡ Some e → IsKeptEdit e
speak_kept address t e name h is =
    let contents = then_some (spoken address) (find (codes "contents") t) e is in
    let c = contents.0 in
    let word = then_some (λ w. option_and_then (by_verb address c) (verb_named w)) (text_at (codes "type") c) e contents.2 in
    let w = word.0 in
    form_kept address c e name (found 99 (codes "contents") t c h contents.1)
    (picked_verb (by_verb address c) _ _ _ _ (bytes_eq w (codes "set")) (bytes_eq w (codes "delete")) (bytes_eq w (codes "clear")) (bytes_eq w (codes "increment")) e word.2)

edit_kept : (t : Tree) (e : Edit) → IsWithin 100 t → edit_in t ≡ Some e → IsKeptEdit e
unfolding edit_in
edit_kept t e h is =
    let address = then_some _ (name_at (codes "address") t) e is in
    let name = name_kept (codes "address") t address.0 address.1 in
    by_attach address.0 name (is_attach t) address.2
  where
    by_attach : (address : List ℕ) → IsName address → (b : Bool) → cond b (attaching address t) (speaking address t) ≡ Some e → IsKeptEdit e
    by_attach address name true k = attach_kept address t e name k
    by_attach address name false k = speak_kept address t e name h k

pub of_op_some : {A : Type 0} (k : Kind) (o : Option A) (a : A) → of_op k o ≡ Some a → o ≡ Some a
of_op_some kind.Op o a is = is
of_op_some kind.Noop o a is = cc
of_op_some kind.Propose o a is = cc
of_op_some kind.Reject o a is = cc
of_op_some kind.Summarize o a is = cc
of_op_some kind.Join o a is = cc
of_op_some kind.Leave o a is = cc
of_op_some kind.SummaryAck o a is = cc
of_op_some kind.SummaryNack o a is = cc

pub message_kept : (m : Message) (e : Edit) → IsReadAsItself m → edit_of m ≡ Some e → IsKeptEdit e
message_kept m e back is =
    edit_kept (body m.contents) e (body_within m.contents (within_more 99 100 m.contents (omega arith) (contents_within m back)))
    (of_op_some m.kind (edit_in (body m.contents)) e is)

-- ---- channels behind so many edits

abbrev pub IsKeptChannel : ℕ → Channel → Type 0
IsKeptChannel n (a_map kept) = (key : List ℕ) (value : Tree) → get kept key ≡ Some value → IsWithin 99 value
IsKeptChannel n (a_counter total) = unsigned_abs total ≤ n * 2 ^ 53

abbrev pub AreKept : ℕ → Channels → Type 0
AreKept n channels = (at : List ℕ) (channel : Channel) → get channels at ≡ Some channel → IsName at × IsKeptChannel n channel

channel_more : (n : ℕ) (channel : Channel) → IsKeptChannel n channel → IsKeptChannel (suc n) channel
channel_more n (a_map kept) h = h
channel_more n (a_counter total) h = omega (arith, h)

set_within : (kept : Values Tree) (k : List ℕ) (v : Tree) → ((key : List ℕ) (value : Tree) → get kept key ≡ Some value → IsWithin 99 value) → IsWithin 99 v
    → (key : List ℕ) (value : Tree) → get (insert kept k v) key ≡ Some value → IsWithin 99 value
set_within kept k v h w key value is = by_key (bytes_eq key k) (sym (get_inserted kept k v key) ∙ is)
  where
    by_key : (b : Bool) → cond b (Some v) (get kept key) ≡ Some value → IsWithin 99 value
    by_key true e = let same : v ≡ value = cc in subst (IsWithin 99) same w
    by_key false e = h key value e

removed_within : (kept : Values Tree) (k : List ℕ) → ((key : List ℕ) (value : Tree) → get kept key ≡ Some value → IsWithin 99 value)
    → (key : List ℕ) (value : Tree) → get (remove kept k) key ≡ Some value → IsWithin 99 value
removed_within kept k h key value is = by_key (bytes_eq key k) (sym (get_removed kept k key) ∙ is)
  where
    by_key : (b : Bool) → cond b None (get kept key) ≡ Some value → IsWithin 99 value
    by_key true e = cc
    by_key false e = h key value e

none_within : (key : List ℕ) (value : Tree) → get {X = Tree} {R = byte_order} empty key ≡ Some value → IsWithin 99 value
none_within key value is = let none : None ≡ Some value = sym (get-empty byte_order key) ∙ is in cc

size-add : (a b : ℤ) → unsigned_abs (a +ℤ b) ≤ unsigned_abs a + unsigned_abs b
size-add a b = grind (arith, ints)

fresh_kept : (n : ℕ) (k : ChannelKind) → IsKeptChannel n (fresh k)
fresh_kept n Map = none_within
fresh_kept n Counter = omega arith

added_kept : (n : ℕ) (total amount : ℤ) (b : Bool) → is_in_range amount ≡ b → IsKeptChannel n (a_counter total) → IfSome (cond b (Some (a_counter (total +ℤ amount))) None) (IsKeptChannel (suc n))
added_kept n total amount true is h = omega (arith, h, size-add total amount, leb-true (unsigned_abs amount) _ is)
added_kept n total amount false is h = tt

told_kept : (n : ℕ) (e : Edit) (before : Option Channel) → IsKeptEdit e → IfSome before (IsKeptChannel n) → IfSome (told e before) (IsKeptChannel (suc n))
told_kept n (Attach address k) None kept h = fresh_kept (suc n) k
told_kept n (Attach address k) (Some channel) kept h = tt
told_kept n (Set address key value) None kept h = tt
told_kept n (Set address key value) (Some (a_map values)) kept h = set_within values key value h kept.1
told_kept n (Set address key value) (Some (a_counter total)) kept h = tt
told_kept n (Delete address key) None kept h = tt
told_kept n (Delete address key) (Some (a_map values)) kept h = removed_within values key h
told_kept n (Delete address key) (Some (a_counter total)) kept h = tt
told_kept n (Clear address) None kept h = tt
told_kept n (Clear address) (Some (a_map values)) kept h = none_within
told_kept n (Clear address) (Some (a_counter total)) kept h = tt
told_kept n (Increment address amount) None kept h = tt
told_kept n (Increment address amount) (Some (a_map values)) kept h = tt
told_kept n (Increment address amount) (Some (a_counter total)) kept h = added_kept n total amount (is_in_range amount) refl h

pub name_of_edit : (e : Edit) → IsKeptEdit e → IsName (address_of e)
name_of_edit (Attach address k) kept = kept
name_of_edit (Set address key value) kept = kept.0
name_of_edit (Delete address key) kept = kept
name_of_edit (Clear address) kept = kept
name_of_edit (Increment address amount) kept = kept

kept_found : (n : ℕ) (found : Option Channel) → ((channel : Channel) → found ≡ Some channel → IsKeptChannel n channel) → IfSome found (IsKeptChannel n)
kept_found n None h = tt
kept_found n (Some channel) h = h channel refl

more_kept : (n : ℕ) (channels : Channels) → AreKept n channels → AreKept (suc n) channels
more_kept n channels h = λ at channel is. ((h at channel is).0, channel_more n channel (h at channel is).1)

put_kept : (n : ℕ) (channels : Channels) (k : List ℕ) (said : Option Channel) → IsName k → IfSome said (IsKeptChannel (suc n)) → AreKept n channels → AreKept (suc n) (put_if_any channels k said)
put_kept n channels k None name put h = more_kept n channels h
put_kept n channels k (Some one) name put h = λ at channel is. by_key at channel (bytes_eq at k) refl (sym (get_inserted channels k one at) ∙ is)
  where
    by_key : (at : List ℕ) (channel : Channel) (b : Bool) → bytes_eq at k ≡ b → cond b (Some one) (get channels at) ≡ Some channel → IsName at × IsKeptChannel (suc n) channel
    by_key at channel true own e =
        let same : one ≡ channel = cc in
        (subst IsName (sym ((bytes_eq-Decides at k).0 own)) name, subst (IsKeptChannel (suc n)) same put)
    by_key at channel false own e = ((h at channel e).0, channel_more n channel (h at channel e).1)

after_kept : (n : ℕ) (channels : Channels) (e : Edit) → IsKeptEdit e → AreKept n channels → AreKept (suc n) (after channels e)
after_kept n channels e kept h =
    let before = get channels (address_of e) in
    put_kept n channels (address_of e) (told e before) (name_of_edit e kept) (told_kept n e before kept (kept_found n before (λ channel is. (h (address_of e) channel is).1))) h

pub replay_kept : (ms : List Message) (n : ℕ) (channels : Channels) → Each IsReadAsItself ms → AreKept n channels → AreKept (n + length ms) (replay channels ms)
replay_kept [] n channels back h = let same : n ≡ n + 0 = omega arith in subst (λ k. AreKept k channels) same h
replay_kept (m ∷ ms) n channels back h = by_edit (λ cs kept. replay_kept ms (suc n) cs back.1 kept) (edit_of m) refl
  where
    far : suc n + length ms ≡ n + suc (length ms)
    far = omega arith

    by_edit : ((cs : Channels) → AreKept (suc n) cs → AreKept (suc n + length ms) (replay cs ms)) → (o : Option Edit) → edit_of m ≡ o → AreKept (n + suc (length ms)) (replay_edits channels (cons_option o (filter_map edit_of ms)))
    by_edit again None is = subst (λ k. AreKept k (replay channels ms)) far (again channels (more_kept n channels h))
    by_edit again (Some e) is = subst (λ k. AreKept k (replay (after channels e) ms)) far (again (after channels e) (after_kept n channels e (message_kept m e back.0 is) h))

-- ---- what is kept can be stored

all_values : (P : Tree → Type 0) (m : Values Tree) → ((key : List ℕ) (value : Tree) → get m key ≡ Some value → P value) → All P (values m)
all_values P m f = λ k d within.
    let start : List ℕ × Tree = ([], d) in
    let inside : k < length (entries m) = omega (arith, length-map (entries m) (λ (e : List ℕ × Tree). e.1), within) in
    let e = get_or (entries m) k start in
    subst P (sym (get_or-map (λ (e : List ℕ × Tree). e.1) (entries m) k start d inside)) (f e.0 e.1 (found_there m k start inside))

-- no channels yet
pub none_kept : (n : ℕ) → AreKept n empty
none_kept n = λ at channel is. let none : None ≡ Some channel = sym (get-empty byte_order at) ∙ is in cc

pub channel_storable : (n : ℕ) (channel : Channel) → n ≤ 2 ^ 53 → IsKeptChannel n channel → ((kept : Values Tree) → channel ≡ a_map kept → IsUtf8 (map_content.content kept)) → IsStorable channel
channel_storable n (a_map kept) few h utf8 = (utf8 kept refl, (all_values IsCanonical kept (λ key value is. (h key value is).canonical), all_values (λ value. depth value ≤ 99) kept (λ key value is. (h key value is).shallow)))
channel_storable n (a_counter total) few h utf8 = omega (arith, few, h)
