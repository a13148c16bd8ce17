-- The texts in an order's messages are UTF-8, and so are those of the channels that they make, where their printed texts are.
use Rattle.std.proofs.Common.{◌≡◌, ◌⊎◌, inl, inr, ℕ, Bool, true, false, cond, List, [], ◌∷◌, Option, Some, None, Result, Ok, Err, MatchOption, IsSomeAnd, bytes_eq, codes, refl, sym, subst, ◌∙◌}
use Rattle.std.specs.Prelude.{IfSome, option_and_then, IsUtf8, ⊤}
use Rattle.std.specs.List.{filter_map, cons_option}
use Rattle.std.specs.FinMap.{empty, entries, get, insert, remove, get-empty}
use Rattle.std.proofs.lemmas.Slice.Eq.{bytes_eq-Decides}
use Rattle.fluid_json.specs.Tree.{Tree, null, boolean, whole, text, list, object, Members, no_members, member, members, find_member, find, as_text}
use Rattle.fluid_json.specs.Spelled.{answer}
use Rattle.fluid_json.specs.declared.fault.JsonFault.{JsonFault}
use Rattle.fluid_table.specs.Table.{byte_order, Values}
use Rattle.fluid_table.proofs.Places.{get_inserted, get_removed}
use Rattle.fluid_texts.specs.Laws.{TextsAreRead, TextsArePrinted, TextsAreWritable}
use Rattle.fluid_texts.specs.Texts.{IsText, HasTexts, IsWritable, HasWritable}
use Rattle.fluid_types.specs.Contents.{read_or, body_of, body}
use Rattle.fluid_types.specs.Texts.{name_of}
use Rattle.fluid_types.specs.Printed.{message_printed}
use Rattle.fluid_types.specs.Spellings.{IsMember, SpellsText, SpellsOrMissing}
use Rattle.fluid_types.specs.declared.fault.Field.{Field}
use Rattle.fluid_types.specs.declared.fault.Field.TheVariants as field
use Rattle.fluid_types.specs.declared.messages.Message.{Message}
use Rattle.fluid_codec.proofs.Spelled.{messages_are_spelled}
use Rattle.fluid_readback.proofs.Each.{Each, each-all, then_some}
use Rattle.fluid_readback.specs.Quorums.{IsReadAsItself}
use Rattle.fluid_map.specs.Content as map_content
use Rattle.fluid_edits.specs.declared.edit.ChannelKind.{ChannelKind}
use Rattle.fluid_edits.specs.declared.edit.ChannelKind.TheVariants.{Map, Counter}
use Rattle.fluid_edits.specs.declared.edit.Edit.{Edit}
use Rattle.fluid_edits.specs.declared.edit.Edit.TheVariants.{Attach, Set, Delete, Clear, Increment}
use Rattle.fluid_edits.specs.Forms.{address_of, is_in_range, text_at, name_at, is_attach, kind_named, verb_named, attaching, plain, plain_value, setting, deleting, incrementing, by_verb, spoken, speaking, edit_in, edit_of}
use Rattle.fluid_edits.specs.Replay.{Channel, a_map, a_counter, Channels, fresh, told, put_if_any, after, replay_edits, replay}
use Rattle.fluid_runtime.proofs.Nodes.{found_there}
use Rattle.fluid_loader.proofs.Storable.{picked_verb, of_op_some, AreKept}

-- ---- values

in_members : (k : List ℕ) (ms : Members) (v : Tree) → find_member k ms ≡ Some v → HasTexts ms → IsText v
in_members k no_members v h c = cc
in_members k (member l t ms) v h c = of (bytes_eq k l) h (λ g. in_members k ms v g c.1.1)
  where
    of : (b : Bool) → cond b (Some t) (find_member k ms) ≡ Some v → (find_member k ms ≡ Some v → IsText v) → IsText v
    of true h again = let same : t ≡ v = cc in subst IsText same c.1.0
    of false h again = again h

pub found : (k : List ℕ) (t v : Tree) → IsText t → find k t ≡ Some v → IsText v
found k (object ms) v h f = in_members k ms v f h
found k null v h f = cc
found k (boolean b) v h f = cc
found k (whole n) v h f = cc
found k (text s) v h f = cc
found k (list ts) v h f = cc

pub own_text : (t : Tree) (s : List ℕ) → IsText t → as_text t ≡ Some s → IsUtf8 s
own_text (text r) s h is = let same : r ≡ s = cc in subst IsUtf8 same h
own_text null s h is = cc
own_text (boolean b) s h is = cc
own_text (whole n) s h is = cc
own_text (list ts) s h is = cc
own_text (object ms) s h is = cc

text_there : (k : List ℕ) (t : Tree) (s : List ℕ) → IsText t → text_at k t ≡ Some s → IsUtf8 s
text_there k t s h is = let value = then_some as_text (find k t) s is in own_text value.0 s (found k t value.0 h value.1) value.2

-- ---- a message

-- its contents, and the text of a system message
pub record IsSpoken (m : Message) : Type 0 where
  pub contents : IsText m.contents
  pub system : (s : List ℕ) → m.system ≡ Some s → IsUtf8 s

member_text : (t v : Tree) (f : Field) → IsText t → IsMember t f v → IsText v
member_text t v f h m = of (find (name_of f) t) refl m
  where
    of : (o : Option Tree) → find (name_of f) t ≡ o → MatchOption o (v ≡ null) (λ w. v ≡ w) → IsText v
    of None e m = subst IsText (sym m) tt
    of (Some w) e m = subst IsText (sym m) (found (name_of f) t w h e)

system_text : (t : Tree) (system : Option (List ℕ)) → IsText t → SpellsOrMissing SpellsText system (find (name_of field.Data) t) → (s : List ℕ) → system ≡ Some s → IsUtf8 s
system_text t None h spells s is = cc
system_text t (Some r) h spells s is = of (find (name_of field.Data) t) refl spells
  where
    same : r ≡ s
    same = cc

    of : (o : Option Tree) → find (name_of field.Data) t ≡ o → IsSomeAnd o (SpellsText r) → IsUtf8 s
    of None e k = absurd k
    of (Some v) e k = subst IsUtf8 same (subst IsText k (found (name_of field.Data) t v h e))

module _ (reads : TextsAreRead) where
  spoken_text : (m : Message) → IsReadAsItself m → IsUtf8 (message_printed m) → IsSpoken m
  spoken_text m back utf8 =
      let spelled = (messages_are_spelled (message_printed m) m).0 back in
      let t = reads (message_printed m) spelled.0 utf8 spelled.1 in
      record { contents = member_text spelled.0 m.contents field.Contents t spelled.2.its_contents; system = system_text spelled.0 m.system t spelled.2.its_system }

  pub each_spoken : (ms : List Message) → Each IsReadAsItself ms → Each (λ m. IsUtf8 (message_printed m)) ms → Each IsSpoken ms
  each_spoken [] back utf8 = tt
  each_spoken (m ∷ ms) back utf8 = (spoken_text m back.0 utf8.0, each_spoken ms back.1 utf8.1)

  read_text : (contents : Tree) (s : List ℕ) (r : Result Tree JsonFault) → answer s ≡ r → IsUtf8 s → IsText contents → IsText (read_or contents r)
  read_text contents s (Ok t) e u h = reads s t u e
  read_text contents s (Err fault) e u h = h

  pub body_text : (contents : Tree) → IsText contents → IsText (body contents)
  unfolding body
  body_text contents h = of (as_text contents) refl
    where
      of : (o : Option (List ℕ)) → as_text contents ≡ o → IsText (body_of contents o)
      of None e = h
      of (Some s) e = read_text contents s (answer s) refl (own_text contents s h e) h

  -- ---- the edit that it spells

  -- the key and the value that it sets
  abbrev IsTextEdit : Edit → Type 0
  IsTextEdit (Attach address kind) = ⊤
  IsTextEdit (Set address key value) = IsUtf8 key × IsText value
  IsTextEdit (Delete address key) = ⊤
  IsTextEdit (Clear address) = ⊤
  IsTextEdit (Increment address amount) = ⊤

  attach_text : (address : List ℕ) (t : Tree) (e : Edit) → attaching address t ≡ Some e → IsTextEdit e
  attach_text address t e h =
      let word = then_some _ (text_at (codes "kind") t) e h in
      let kind = then_some (λ k. Some (Attach address k)) (kind_named word.0) e word.2 in
      let is : Attach address kind.0 ≡ e = let k = kind.2 in cc in
      subst IsTextEdit is tt

  plain_text : (t v : Tree) → IsText t → plain t ≡ Some v → IsText v
  plain_text t v h is = let word = then_some _ (text_at (codes "type") t) v is in by_word (bytes_eq word.0 (codes "Plain")) word.2
    where
      by_word : (b : Bool) → cond b (find (codes "value") t) None ≡ Some v → IsText v
      by_word true k = found (codes "value") t v h k
      by_word false k = cc

  set_text : (address : List ℕ) (t : Tree) (e : Edit) → IsText t → setting address t ≡ Some e → IsTextEdit e
  set_text address t e h is =
      let key = then_some _ (text_at (codes "key") t) e is in
      let value = then_some (λ v. Some (Set address key.0 v)) (plain_value t) e key.2 in
      let holder = then_some plain (find (codes "value") t) value.0 value.1 in
      let same : Set address key.0 value.0 ≡ e = let k = value.2 in cc in
      subst IsTextEdit same (text_there (codes "key") t key.0 h key.1, plain_text holder.0 value.0 (found (codes "value") t holder.0 h holder.1) holder.2)

  delete_text : (address : List ℕ) (t : Tree) (e : Edit) → deleting address t ≡ Some e → IsTextEdit e
  delete_text address t e is =
      let key = then_some (λ k. Some (Delete address k)) (text_at (codes "key") t) e is in
      let same : Delete address key.0 ≡ e = let k = key.2 in cc in
      subst IsTextEdit same tt

  increment_text : (address : List ℕ) (t : Tree) (e : Edit) → incrementing address t ≡ Some e → IsTextEdit e
  increment_text address t e is =
      let value = then_some _ (find (codes "incrementAmount") t) e is in
      let amount = then_some (λ a. Some (Increment address a)) _ e value.2 in
      let same : Increment address amount.0 ≡ e = let k = amount.2 in cc in
      subst IsTextEdit same tt

  form_text : (address : List ℕ) (t : Tree) (e : Edit) → IsText t
      → (setting address t ≡ Some e) ⊎ ((deleting address t ≡ Some e) ⊎ ((Some (Clear address) ≡ Some e) ⊎ (incrementing address t ≡ Some e))) → IsTextEdit e
  form_text address t e h (inl is) = set_text address t e h is
  form_text address t e h (inr (inl is)) = delete_text address t e is
  form_text address t e h (inr (inr (inl is))) = let same : Clear address ≡ e = cc in subst IsTextEdit same tt
  form_text address t e h (inr (inr (inr is))) = increment_text address t e is

  speak_text : (address : List ℕ) (t : Tree) (e : Edit) → IsText t → speaking address t ≡ Some e → IsTextEdit e
  speak_text address t e h is =
      let contents = then_some (spoken address) (find (codes "contents") t) e is in
      let c = contents.0 in
      let word = then_some (λ w. option_and_then (by_verb address c) (verb_named w)) (text_at (codes "type") c) e contents.2 in
      let w = word.0 in
      form_text address c e (found (codes "contents") t c h contents.1)
      (picked_verb (by_verb address c) _ _ _ _ (bytes_eq w (codes "set")) (bytes_eq w (codes "delete")) (bytes_eq w (codes "clear")) (bytes_eq w (codes "increment")) e word.2)

  edit_text : (t : Tree) (e : Edit) → IsText t → edit_in t ≡ Some e → IsTextEdit e
  unfolding edit_in
  edit_text t e h is = let address = then_some _ (name_at (codes "address") t) e is in by_attach address.0 (is_attach t) address.2
    where
      by_attach : (address : List ℕ) → (b : Bool) → cond b (attaching address t) (speaking address t) ≡ Some e → IsTextEdit e
      by_attach address true k = attach_text address t e k
      by_attach address false k = speak_text address t e h k

  message_text : (m : Message) (e : Edit) → IsSpoken m → edit_of m ≡ Some e → IsTextEdit e
  message_text m e h is = edit_text (body m.contents) e (body_text m.contents h.contents) (of_op_some m.kind (edit_in (body m.contents)) e is)

  -- ---- channels

  abbrev IsTextMap : Values Tree → Type 0
  IsTextMap kept = (key : List ℕ) (value : Tree) → get kept key ≡ Some value → IsUtf8 key × IsText value

  abbrev IsTextChannel : Channel → Type 0
  IsTextChannel (a_map kept) = IsTextMap kept
  IsTextChannel (a_counter total) = ⊤

  abbrev AreTextChannels : Channels → Type 0
  AreTextChannels channels = (at : List ℕ) (channel : Channel) → get channels at ≡ Some channel → IsTextChannel channel

  none_text : IsTextMap empty
  none_text key value is = let none : None ≡ Some value = sym (get-empty byte_order key) ∙ is in cc

  pub no_channels_text : AreTextChannels empty
  no_channels_text at channel is = let none : None ≡ Some channel = sym (get-empty byte_order at) ∙ is in cc

  set_map : (kept : Values Tree) (k : List ℕ) (v : Tree) → IsTextMap kept → IsUtf8 k × IsText v → IsTextMap (insert kept k v)
  set_map kept k v h own key value is = by_key (bytes_eq key k) refl (sym (get_inserted kept k v key) ∙ is)
    where
      by_key : (b : Bool) → bytes_eq key k ≡ b → cond b (Some v) (get kept key) ≡ Some value → IsUtf8 key × IsText value
      by_key true e k_is = let same : v ≡ value = cc in (subst IsUtf8 (sym ((bytes_eq-Decides key k).0 e)) own.0, subst IsText same own.1)
      by_key false e k_is = h key value k_is

  removed_map : (kept : Values Tree) (k : List ℕ) → IsTextMap kept → IsTextMap (remove kept k)
  removed_map kept k h key value is = by_key (bytes_eq key k) (sym (get_removed kept k key) ∙ is)
    where
      by_key : (b : Bool) → cond b None (get kept key) ≡ Some value → IsUtf8 key × IsText value
      by_key true e = cc
      by_key false e = h key value e

  fresh_text : (k : ChannelKind) → IsTextChannel (fresh k)
  fresh_text Map = none_text
  fresh_text Counter = tt

  added_text : (b : Bool) (total : Channel) → IsTextChannel total → IfSome (cond b (Some total) None) IsTextChannel
  added_text true total h = h
  added_text false total h = tt

  told_text : (e : Edit) (before : Option Channel) → IsTextEdit e → IfSome before IsTextChannel → IfSome (told e before) IsTextChannel
  told_text (Attach address k) None own h = fresh_text k
  told_text (Attach address k) (Some channel) own h = tt
  told_text (Set address key value) None own h = tt
  told_text (Set address key value) (Some (a_map values)) own h = set_map values key value h own
  told_text (Set address key value) (Some (a_counter total)) own h = tt
  told_text (Delete address key) None own h = tt
  told_text (Delete address key) (Some (a_map values)) own h = removed_map values key h
  told_text (Delete address key) (Some (a_counter total)) own h = tt
  told_text (Clear address) None own h = tt
  told_text (Clear address) (Some (a_map values)) own h = none_text
  told_text (Clear address) (Some (a_counter total)) own h = tt
  told_text (Increment address amount) None own h = tt
  told_text (Increment address amount) (Some (a_map values)) own h = tt
  told_text (Increment address amount) (Some (a_counter total)) own h = added_text (is_in_range amount) (a_counter _) tt

  found_text : (o : Option Channel) → ((channel : Channel) → o ≡ Some channel → IsTextChannel channel) → IfSome o IsTextChannel
  found_text None h = tt
  found_text (Some channel) h = h channel refl

  put_text : (channels : Channels) (k : List ℕ) (said : Option Channel) → IfSome said IsTextChannel → AreTextChannels channels → AreTextChannels (put_if_any channels k said)
  put_text channels k None put h = h
  put_text channels k (Some one) put h = λ at channel is. by_key at channel (bytes_eq at k) (sym (get_inserted channels k one at) ∙ is)
    where
      by_key : (at : List ℕ) (channel : Channel) (b : Bool) → cond b (Some one) (get channels at) ≡ Some channel → IsTextChannel channel
      by_key at channel true e = let same : one ≡ channel = cc in subst IsTextChannel same put
      by_key at channel false e = h at channel e

  after_text : (channels : Channels) (e : Edit) → IsTextEdit e → AreTextChannels channels → AreTextChannels (after channels e)
  after_text channels e own h =
      let before = get channels (address_of e) in
      put_text channels (address_of e) (told e before) (told_text e before own (found_text before (λ channel is. h (address_of e) channel is))) h

  pub replay_text : (ms : List Message) (channels : Channels) → Each IsSpoken ms → AreTextChannels channels → AreTextChannels (replay channels ms)
  replay_text [] channels said h = h
  replay_text (m ∷ ms) channels said h = by_edit (λ cs own. replay_text ms cs said.1 own) (edit_of m) refl
    where
      by_edit : ((cs : Channels) → AreTextChannels cs → AreTextChannels (replay cs ms)) → (o : Option Edit) → edit_of m ≡ o → AreTextChannels (replay_edits channels (cons_option o (filter_map edit_of ms)))
      by_edit again None is = again channels h
      by_edit again (Some e) is = again (after channels e) (after_text channels e (message_text m e said.0 is) h)

  -- ---- the content of a map

  module _ (prints : TextsArePrinted) (writes : TextsAreWritable) where
    listed : (es : List (List ℕ × Tree)) → Each (λ e. IsUtf8 e.0 × IsWritable e.1) es → HasWritable (members es)
    listed [] h = tt
    listed (e ∷ es) h = (h.0.0, (h.0.1, listed es h.1))

    -- the contents of the maps are UTF-8, where their values are as they are kept
    pub contents_text : (n : ℕ) (channels : Channels) → AreKept n channels → AreTextChannels channels → (at : List ℕ) (values : Values Tree) → get channels at ≡ Some (a_map values)
        → IsUtf8 (map_content.content values)
    contents_text n channels kept texts at values is =
        prints (map_content.object_of values)
        (listed (entries values) (each-all (λ e. IsUtf8 e.0 × IsWritable e.1) (entries values)
        (λ k d within.
        let own = found_there values k d within in
        let said = texts at (a_map values) is _ _ own in
        (said.0, writes _ ((kept at (a_map values) is).1 _ _ own).canonical said.1))))
