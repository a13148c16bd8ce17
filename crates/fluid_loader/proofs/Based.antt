-- What a container uploads is the tree of its channels, however much of it are handles.
use Rattle.std.proofs.Common.{◌≡◌, ◌⊎◌, inl, inr, ℕ, suc, ◌<◌, Bool, true, false, cond, List, [], ◌∷◌, length, get_or, map, Option, Some, None, option_and_then, Result, Ok, bytes_eq, if◌then◌else◌, refl, sym, ap, subst, ◌∙◌, arith}
use Rattle.std.specs.List.{AllByRecursion}
use Rattle.std.specs.Option.{unwrap_or, ok_or}
use Rattle.std.specs.FinMap.{entries, get, get-empty}
use Rattle.std.proofs.lemmas.Slice.Eq.{bytes_eq-Decides}
use Rattle.std.proofs.lemmas.Bool.{false≢true}
use Rattle.fluid_table.specs.Table.{Values, byte_order}
use Rattle.fluid_table.proofs.Places.{get_inserted}
use Rattle.fluid_tree.specs.Laws.{IsReadBack}
use Rattle.fluid_tree.specs.Summary.{Summary, tree, handle, child, children, Children}
use Rattle.fluid_types.specs.Names.{IsName}
use Rattle.fluid_types.specs.declared.messages.Message.{Message}
use Rattle.fluid_handles.specs.Resolved.{resolved, all_resolved, named, at_path, ◌>>=◌, AllWhole}
use Rattle.fluid_handles.specs.Laws.{IsItself}
use Rattle.fluid_readback.specs.Quorums.{IsReadAsItself}
use Rattle.fluid_readback.proofs.Each.{Each, each-all}
use Rattle.fluid_edits.specs.declared.edit.Edit.{Edit}
use Rattle.fluid_edits.specs.Forms.{edit_of, address_of}
use Rattle.fluid_edits.specs.Replay.{Channel, Channels, no_channels, told, put_if_any}
use Rattle.fluid_runtime.specs.App.{after_any, after_message, changed_by}
use Rattle.fluid_runtime.specs.AppTree.{channel_node, app_tree, node_since, tree_since}
use Rattle.fluid_runtime.specs.Laws.{Pairs, IsNamed, IsListOf, tree_in_order, IsSince, StaysSince, StaysUnmarked, IsMarked, IsWholeUnmarked}
use Rattle.fluid_runtime.proofs.Nodes.{found_there}
use Rattle.fluid_store.specs.Held.{Held, Keeps, IsShort}
use Rattle.fluid_store.specs.Standing.{Stands}
use Rattle.fluid_store.specs.Uploading.{IsEarlier, StandsResolved}
use Rattle.fluid_loader.specs.Container.{AContainer, taken_by, behind}
use Rattle.fluid_loader.specs.Calls.{since}
use Rattle.fluid_loader.specs.Laws.{AreNamed, IsBasedOn, IsBased, IsWholeUpload, StayBased}
use Rattle.fluid_loader.proofs.Fetched.{app_fetched}
use Rattle.fluid_loader.proofs.Grown.{fetched_kept}
use Rattle.fluid_loader.proofs.ReadVersion.{version_based}
use Rattle.fluid_loader.proofs.Storable.{message_kept, name_of_edit}

-- ---- an earlier tree in whatever order

module _ (earlier : Channels) where
  abbrev nodes_of : Pairs → Children
  nodes_of pairs = children (map (λ e. (e.0, channel_node e.1)) pairs)

  named_in : (at : List ℕ) (channel : Channel) (pairs : Pairs) → AllByRecursion (λ e. get earlier e.0 ≡ Some e.1) pairs → get earlier at ≡ Some channel → IsNamed at pairs
      → named at (nodes_of pairs) ≡ Some (channel_node channel)
  named_in at channel [] each is h = absurd h
  named_in at channel (e ∷ es) each is h = by_name (λ later. named_in at channel es each.1 is later) (bytes_eq at e.0) refl h
    where
      by_name : (IsNamed at es → named at (nodes_of es) ≡ Some (channel_node channel)) → (b : Bool) → bytes_eq at e.0 ≡ b → (e.0 ≡ at) ⊎ IsNamed at es
          → cond b (Some (channel_node e.1)) (named at (nodes_of es)) ≡ Some (channel_node channel)
      by_name again true own k =
          let both : Some e.1 ≡ Some channel = sym each.0 ∙ ap (get earlier) (sym ((bytes_eq-Decides at e.0).0 own)) ∙ is in
          let same : e.1 ≡ channel = cc in
          ap (λ c. Some (channel_node c)) same
      by_name again false own (inl here) = absurd (false≢true (sym own ∙ (bytes_eq-Decides at e.0).1 (sym here)))
      by_name again false own (inr later) = again later

  module _ (pairs : Pairs) (are : IsListOf earlier pairs) (channels : Channels) (changed : Values Bool) (since_then : IsSince earlier changed channels) where
    in_tree : (at : List ℕ) (channel : Channel) → get earlier at ≡ Some channel → option_and_then (at_path (at ∷ [])) (Some (tree_in_order pairs)) ≡ Some (channel_node channel)
    in_tree at channel is = ap (option_and_then (at_path [])) (named_in at channel pairs are.each is (are.all at channel is))

    by_change : (at : List ℕ) (channel : Channel) (said : Option Bool) → get changed at ≡ said → get channels at ≡ Some channel
        → resolved (Some (tree_in_order pairs)) (if unwrap_or said true then channel_node channel else handle (at ∷ [])) ≡ Ok (channel_node channel)
    by_change at channel None is found = refl
    by_change at channel (Some true) is found = refl
    by_change at channel (Some false) is found = ap (λ node. ok_or node (at ∷ [])) (in_tree at channel (since_then at is ∙ found))

    all_nodes : (cs : Pairs) → ((n : ℕ) (d : List ℕ × Channel) → n < length cs → get channels (get_or cs n d).0 ≡ Some (get_or cs n d).1)
        → all_resolved (Some (tree_in_order pairs)) (children (map (λ e. (e.0, node_since changed e.0 e.1)) cs)) ≡ Ok (nodes_of cs)
    all_nodes [] each = refl
    all_nodes (c ∷ cs) each =
        ap (λ r. r >>= λ s. (all_resolved (Some (tree_in_order pairs)) (children (map (λ e. (e.0, node_since changed e.0 e.1)) cs)) >>= λ rest. Ok (child c.0 s rest)))
        (by_change c.0 c.1 (get changed c.0) refl (each 0 c (omega arith)))
        ∙ ap (λ r. r >>= λ rest. Ok (child c.0 (channel_node c.1) rest)) (all_nodes cs (λ n d within. each (suc n) d (omega (arith, within))))

    whole_tree_so : resolved (Some (tree_in_order pairs)) (tree_since changed channels) ≡ Ok (app_tree channels)
    whole_tree_so = ap (λ r. r >>= λ nodes. Ok (tree nodes)) (all_nodes (entries channels) (λ n d within. found_there channels n d within))

-- ---- what is put

all_whole : (cs : Pairs) → AllWhole (children (map (λ e. (e.0, channel_node e.1)) cs))
all_whole [] = tt
all_whole (c ∷ cs) = ((tt, (tt, tt)), all_whole cs)

stands_so : (new : Held) (base : Option Summary) (node wanted : Summary) (id : List ℕ) → resolved base node ≡ Ok wanted → StandsResolved new base node id → Stands new id wanted
stands_so new base node wanted id is put =
    let both : ◌≡◌ {A = Result Summary (List (List ℕ))} (Ok put.0) (Ok wanted) = sym put.1.0 ∙ is in
    let same : put.0 ≡ wanted = cc in
    subst (Stands new id) same put.1.1

whole_upload_by : IsItself → IsWholeUnmarked → (base : Option (List ℕ)) (channels : Channels) (changed : Values Bool) (old new : Held) (id : List ℕ)
    → IsBasedOn old base channels changed → ((earlier : Option Summary) → IsEarlier old base earlier → StandsResolved new earlier (tree_since changed channels) id) → Stands new id (app_tree channels)
whole_upload_by itself unmarked None channels changed old new id based put =
    stands_so new None (tree_since changed channels) (app_tree channels) id
    (ap (resolved None) (unmarked channels changed based) ∙ itself None (app_tree channels) (all_whole (entries channels))) (put None tt)
whole_upload_by itself unmarked (Some base) channels changed old new id based put =
    stands_so new (Some (tree_in_order based.pairs)) (tree_since changed channels) (app_tree channels) id (whole_tree_so based.earlier based.pairs based.are channels changed based.since)
    (put (Some (tree_in_order based.pairs)) based.reads)

pub whole_upload : IsItself → IsWholeUnmarked → IsWholeUpload
whole_upload itself unmarked c old new id based put = whole_upload_by itself unmarked c.base c.channels c.changed old new id based.on put

-- ---- it stays based

taken_on : StaysSince → StaysUnmarked → (held : Held) (base : Option (List ℕ)) (channels : Channels) (changed : Values Bool) (m : Message) → IsBasedOn held base channels changed
    → IsBasedOn held base (after_message channels m) (changed_by channels changed (edit_of m))
taken_on stays unmarked held None channels changed m based = unmarked channels changed m based
taken_on stays unmarked held (Some base) channels changed m based =
    record { earlier = based.earlier; pairs = based.pairs; are = based.are; reads = based.reads; since = stays based.earlier channels changed m based.since }

-- the address of an edit that a message spells is a name
put_named : (channels : Channels) (at : List ℕ) (said : Option Channel) → IsName at → AreNamed channels → AreNamed (put_if_any channels at said)
put_named channels at None name named = named
put_named channels at (Some one) name named = λ other channel is. by_key other channel (bytes_eq other at) refl (sym (get_inserted channels at one other) ∙ is)
  where
    by_key : (other : List ℕ) (channel : Channel) (b : Bool) → bytes_eq other at ≡ b → cond b (Some one) (get channels other) ≡ Some channel → IsName other
    by_key other channel true own k = subst IsName (sym ((bytes_eq-Decides other at).0 own)) name
    by_key other channel false differs k = named other channel k

taken_named : (channels : Channels) (m : Message) → IsReadAsItself m → AreNamed channels → AreNamed (after_message channels m)
taken_named channels m back named = by_edit (edit_of m) refl
  where
    by_edit : (o : Option Edit) → edit_of m ≡ o → AreNamed (after_any channels o)
    by_edit None is = named
    by_edit (Some e) is = put_named channels (address_of e) (told e (get channels (address_of e))) (name_of_edit e (message_kept m e back is)) named

pub behind_based : StaysSince → StaysUnmarked → (held : Held) (client : List ℕ) (c : AContainer) (ms : List Message) → Each IsReadAsItself ms → IsBased held c → IsBased held (behind client c ms)
behind_based stays unmarked held client c [] back based = based
behind_based stays unmarked held client c (m ∷ ms) back based =
    behind_based stays unmarked held client (taken_by client c m) ms back.1
    (record { named = taken_named c.channels m back.0 based.named; on = taken_on stays unmarked held c.base c.channels c.changed m based.on })

grown_on : (old new : Held) (base : Option (List ℕ)) (channels : Channels) (changed : Values Bool) → Keeps old new → IsBasedOn old base channels changed → IsBasedOn new base channels changed
grown_on old new None channels changed keeps based = based
grown_on old new (Some base) channels changed keeps based =
    record { earlier = based.earlier; pairs = based.pairs; are = based.are; reads = fetched_kept old new keeps 32 base (tree_in_order based.pairs) based.reads; since = based.since }

pub grown_based : (old new : Held) (c : AContainer) → Keeps old new → IsBased old c → IsBased new c
grown_based old new c keeps based = record { named = based.named; on = grown_on old new c.base c.channels c.changed keeps based.on }

uploaded_based : IsReadBack → IsMarked → (held : Held) (c : AContainer) (id : List ℕ) → IsShort held → AreNamed c.channels → Stands held id (app_tree c.channels) → IsBased held (since c id)
uploaded_based back marked held c id short named stands =
    let read = app_fetched back held short c.channels named id stands in
    record { named = named; on = record { earlier = c.channels; pairs = read.pairs; are = read.are; reads = read.reads; since = marked c.channels } }

pub none_named : AreNamed no_channels
none_named at channel is = let none : None ≡ Some channel = sym (get-empty byte_order at) ∙ is in cc

pub stay_based : IsReadBack → StaysSince → StaysUnmarked → IsMarked → StayBased
stay_based back stays unmarked marked = record {
  begins = λ held. record { named = none_named; on = refl };
  loads = version_based marked;
  behind_messages = λ held client c messages back_all based. behind_based stays unmarked held client c messages (each-all IsReadAsItself messages back_all) based;
  store_grows = grown_based;
  uploaded = uploaded_based back marked;
}
