-- A container behind messages, and one that began with an honest summary.
use Rattle.std.proofs.Common.{◌≡◌, ℕ, suc, ◌+◌, ◌^◌, ◌≤◌, ◌==◌, Bool, true, false, cond, ◌&&◌, List, [], ◌∷◌, ◌++◌, length, take, drop, Option, Some, None, Result, Ok, Err, codes, refl, sym, ap, subst, ◌∙◌, arith, append_assoc, append-nil}
use Rattle.std.specs.Prelude.{All, IsUtf8}
use Rattle.std.specs.List.{filter_map, cons_option}
use Rattle.std.specs.FinMap.{get}
use Rattle.std.proofs.lemmas.Bool.{eqb-false}
use Rattle.std.proofs.lemmas.List.{take-append-drop, length-take-le}
use Rattle.fluid_tree.specs.Object.{tree_bytes}
use Rattle.fluid_types.proofs.Numbers.{last_number}
use Rattle.fluid_types.specs.Quorum.{at_last}
use Rattle.std.proofs.lemmas.List.Elements.{All-take}
use Rattle.fluid_tree.specs.Laws.{IsReadBack}
use Rattle.fluid_tree.specs.Summary.{Summary, Children, no_children, child, children, is_tree}
use Rattle.fluid_tree.specs.Object.{in_order}
use Rattle.fluid_tree.specs.declared.id.SummaryRef.{SummaryRef}
use Rattle.fluid_tree.specs.declared.object.Object.{Object}
use Rattle.fluid_tree.specs.declared.object.Object.TheVariants.{Blob, Tree}
use Rattle.fluid_tree.specs.declared.object.ObjectEntry.{ObjectEntry}
use Rattle.fluid_types.specs.Blobs.{blobs_of}
use Rattle.fluid_texts.specs.Laws.{TextsAreRead, TextsArePrinted, TextsAreWritable}
use Rattle.fluid_types.specs.Forms.{largest}
use Rattle.fluid_types.specs.Ledger.{Ledger}
use Rattle.fluid_types.specs.Order.{AreNumberedFrom, AreFirst}
use Rattle.fluid_types.specs.Printed.{message_printed}
use Rattle.fluid_types.specs.Quorum.{Quorum, quorum_of}
use Rattle.fluid_types.specs.declared.messages.Message.{Message}
use Rattle.fluid_map.specs.Laws as map_laws
use Rattle.fluid_counter.specs.Laws as counter_laws
use Rattle.fluid_rules.specs.Scribe.{protocol}
use Rattle.fluid_quorum.specs.After.{after}
use Rattle.fluid_quorum.specs.Laws.{GoesOn, IsOnlyBlobs, AreAttributes}
use Rattle.fluid_quorum.specs.Reading as quorum
use Rattle.fluid_readback.specs.Quorums.{IsReadAsItself, QuorumsAreReadBack}
use Rattle.fluid_readback.proofs.Each.{Each, each-all}
use Rattle.fluid_readback.proofs.Said.{in_range}
use Rattle.fluid_edits.specs.declared.edit.Edit.{Edit}
use Rattle.fluid_edits.specs.Forms.{edit_of}
use Rattle.fluid_edits.specs.Replay.{Channels, no_channels, replay, replay_edits}
use Rattle.fluid_edits.proofs.Replays.{replayed_on_law}
use Rattle.fluid_runtime.specs.App.{after_any, left, is_op}
use Rattle.fluid_runtime.specs.AppTree as app
use Rattle.fluid_runtime.specs.AppTree.{app_tree}
use Rattle.fluid_runtime.specs.Laws.{StaysSince, StaysUnmarked, IsMarked}
use Rattle.fluid_store.specs.Held.{Held, IsShort}
use Rattle.fluid_store.specs.Standing.{AllStand, object_at}
use Rattle.fluid_store.proofs.Reread.{AllUtf8, standing_fit, reread_tree}
use Rattle.fluid_loader.specs.Calls.{begun_of, or_bad, begun_picked, begun_in}
use Rattle.fluid_loader.specs.Container.{AContainer, empty, begun, is_from, taken_by, behind}
use Rattle.fluid_loader.specs.Laws.{replayed, IsHonest, IsHonestPick, HasReplayed, Follows, IsWholeReplay}
use Rattle.fluid_loader.specs.Link.{Document, IsOrder, picked}
use Rattle.fluid_loader.specs.Version.{AVersion, ◌>>=◌, node_within, nodes_within, blob_under, of_number, channels_answer, quorum_answer, version_answer, entries_of, entries_at, id_named, version_at}
use Rattle.fluid_loader.specs.declared.link.Pick.{Pick}
use Rattle.fluid_loader.specs.declared.link.Pick.TheVariants.{Empty, Latest, Handle}
use Rattle.fluid_loader.proofs.Numbers.{number_right}
use Rattle.fluid_loader.proofs.Based.{behind_based, none_named}
use Rattle.fluid_loader.proofs.Orders.{prefix_numbered, each_drop}
use Rattle.fluid_loader.proofs.Picking.{picked_within}
use Rattle.fluid_loader.proofs.ReadVersion.{bind_ok, blob_ok, version_based}
use Rattle.fluid_loader.proofs.Exact.{tree_at, app_exact, protocol_exact}
use Rattle.fluid_loader.specs.Laws.{IsHonestRead}
use Rattle.fluid_loader.proofs.Blobs.{protocol_read}
use Rattle.fluid_loader.proofs.Honest.{plain_utf8, two_in_order, keys_are, app_read}
use Rattle.fluid_loader.proofs.Quoted.{quorum_text}
use Rattle.fluid_loader.proofs.Spoken.{IsSpoken, each_spoken, replay_text, no_channels_text, contents_text}
use Rattle.fluid_loader.proofs.Storable.{AreKept, none_kept, replay_kept}

-- ---- behind messages

one_message : (channels : Channels) (ms : List Message) (o : Option Edit) → replay (after_any channels o) ms ≡ replay_edits channels (cons_option o (filter_map edit_of ms))
one_message channels ms None = refl
one_message channels ms (Some edit) = refl

pub behind_channels : (client : List ℕ) (c : AContainer) (ms : List Message) → (behind client c ms).channels ≡ replay c.channels ms
behind_channels client c [] = refl
behind_channels client c (m ∷ ms) = behind_channels client (taken_by client c m) ms ∙ one_message c.channels ms (edit_of m)

abbrev no_edits : List Edit
no_edits = []

nothing_left : (own op : Bool) → cond (own && op) (drop 1 no_edits) no_edits ≡ no_edits
nothing_left true true = refl
nothing_left true false = refl
nothing_left false op = refl

behind_pending : (client : List ℕ) (c : AContainer) (ms : List Message) → c.pending ≡ [] → (behind client c ms).pending ≡ []
behind_pending client c [] none = none
behind_pending client c (m ∷ ms) none =
    behind_pending client (taken_by client c m) ms (ap (left (is_from client m.client) m) none ∙ nothing_left (is_from client m.client) (is_op m))

pub behind_quorum : GoesOn → (client : List ℕ) (c : AContainer) (before ms : List Message) → AreFirst (before ++ ms) → c.quorum ≡ quorum_of before → (behind client c ms).quorum ≡ quorum_of (before ++ ms)
behind_quorum law client c before [] first is = is ∙ ap quorum_of (sym (append-nil before))
behind_quorum law client c before (m ∷ ms) first is =
    let joined : before ++ (m ∷ ms) ≡ (before ++ m ∷ []) ++ ms = sym (append_assoc before (m ∷ []) ms) in
    behind_quorum law client (taken_by client c m) (before ++ m ∷ []) ms (subst AreFirst joined first)
    (ap (λ q. after q m) is ∙ sym (law before m (prefix_numbered 1 before (m ∷ ms) first)))
    ∙ ap quorum_of (sym joined)

-- ---- orders

is_eq : (a b : ℕ) → a ≡ b → (a == b) ≡ true
is_eq a b e = by_test (a == b) refl
  where
    by_test : (c : Bool) → (a == b) ≡ c → c ≡ true
    by_test true h = refl
    by_test false h = absurd (eqb-false a b h e)

numbers_fit : (k : ℕ) (ms : List Message) → k ≤ largest + 1 → AreNumberedFrom k ms → Each IsReadAsItself ms → length ms + k ≤ largest + 1
numbers_fit k [] le numbered back = omega (arith, le)
numbers_fit k (m ∷ ms) le numbered back =
    let own = (in_range m back.0).number in
    let next : suc k ≤ largest + 1 = omega (arith, numbered.0, own) in
    omega (arith, numbers_fit (suc k) ms next numbered.1 back.1)

-- ---- an honest summary

tree_of : (o : Option Object) (es : List ObjectEntry) → entries_of o ≡ Ok es → o ≡ Some (Tree es)
tree_of None es h = cc
tree_of (Some (Blob content)) es h = cc
tree_of (Some (Tree entries)) es h = let is : entries ≡ es = cc in ap (λ l. Some (Tree l)) is

quorum_ok : (b : Bool) (r : Result Quorum (List ℕ)) (fault : List ℕ) (q : Quorum) → cond b r (Err fault) ≡ Ok q → r ≡ Ok q
quorum_ok true r fault q h = h
quorum_ok false r fault q h = cc

abbrev app_name : List ℕ
app_name = codes ".app"

abbrev protocol_name : List ℕ
protocol_name = codes ".protocol"

abbrev pair : Summary → Summary → Children
pair a p = child app_name a (child protocol_name p no_children)

version_names : AllUtf8 (app_name ∷ protocol_name ∷ [])
version_names = (plain_utf8 app_name refl, (plain_utf8 protocol_name refl, tt))

-- what is answered of the two nodes
parts_answer : (number : ℕ) (a p : Summary) (v : Channels × Quorum) → version_answer number (pair a p) ≡ Ok v → (app.answer a ≡ Ok v.0) × (quorum.answer p ≡ Ok v.1)
parts_answer number a p v h =
    let one = bind_ok (channels_answer a) (λ channels. quorum_answer number p >>= λ q. Ok (channels, q)) v h in
    let two = bind_ok (quorum_answer number p) (λ q. Ok (one.0, q)) v one.1.1 in
    let same : (one.0, two.0) ≡ v = let k = two.1.1 in cc in
    let inside = quorum_ok (is_tree p) (of_number number (quorum.number_in p) >>= λ _. blob_under protocol_name (quorum.answer p)) protocol_name two.0 two.1.0 in
    let three = bind_ok (of_number number (quorum.number_in p)) (λ _. blob_under protocol_name (quorum.answer p)) two.0 inside in (
      blob_ok app_name (app.answer a) one.0 one.1.0 ∙ ap (λ w. Ok w.0) same,
      blob_ok protocol_name (quorum.answer p) two.0 three.1.1 ∙ ap (λ w. Ok w.1) same,
    )

module _ (back : IsReadBack) (maps : map_laws.IsReadBack) (counters : counter_laws.IsReadBack) (only : IsOnlyBlobs) (attributes : AreAttributes) (law : GoesOn) (quorums : QuorumsAreReadBack) (stays : StaysSince) (unmarked : StaysUnmarked) (marked : IsMarked) where
  module _ (order : List Message) (is_order : IsOrder order) (held : Held) (s : SummaryRef) where
    abbrev first_ones : List Message
    first_ones = take s.number order

    numbered : AreFirst first_ones
    numbered = prefix_numbered 1 first_ones (drop s.number order) (subst AreFirst (sym (take-append-drop s.number order)) is_order.numbered)

    read_back : All IsReadAsItself first_ones
    read_back = All-take IsReadAsItself s.number order is_order.read_back

    each_back : Each IsReadAsItself first_ones
    each_back = each-all IsReadAsItself first_ones read_back

    few : length first_ones ≤ 2 ^ 53
    few = omega (arith, numbers_fit 1 first_ones (omega arith) numbered each_back)

    kept : AreKept (length first_ones) (replayed order s.number)
    kept = let same : 0 + length first_ones ≡ length first_ones = omega arith in subst (λ k. AreKept k (replayed order s.number)) same (replay_kept first_ones 0 no_channels each_back (none_kept 0))

    same_number : s.number ≤ length order → ((quorum_of first_ones).number == s.number) ≡ true
    unfolding quorum_of
    same_number within = is_eq (at_last (λ m. m.number) first_ones) s.number (last_number first_ones numbered ∙ length-take-le s.number order within)

    abbrev IsRead : Channels × Quorum → Type 0
    IsRead v = (v.0 ≡ replayed order s.number) × (v.1 ≡ quorum_of first_ones)

    by_entries : (es got : List ObjectEntry) (v : Channels × Quorum) → AllStand held es (pair (app_tree (replayed order s.number)) (protocol (blobs_of (quorum_of first_ones)))) → got ≡ in_order es
        → version_answer s.number (children (nodes_within held 2 got)) ≡ Ok v → IsRead v
    by_entries [] got v stand sorted h = absurd stand
    by_entries (e ∷ []) got v stand sorted h = absurd stand.1.1.1.1
    by_entries (e ∷ f ∷ g ∷ gs) got v stand sorted h = absurd stand.1.1.1.1.1.1.1.1
    by_entries (e ∷ f ∷ []) got v stand sorted h =
        let rest = stand.1.1.1.1 in
        let as_they_are : in_order (e ∷ f ∷ []) ≡ e ∷ f ∷ [] = two_in_order e f (keys_are e f app_name protocol_name true true stand.0 stand.1.0 rest.0 rest.1.0) in
        let nodes : children (nodes_within held 2 got) ≡ pair (node_within held 2 e) (node_within held 2 f) =
        ap (λ l. children (nodes_within held 2 l)) (sorted ∙ as_they_are) ∙ (λ i. child (stand.0 i) (node_within held 2 e) (child (rest.0 i) (node_within held 2 f) no_children)) in
        let parts = parts_answer s.number (node_within held 2 e) (node_within held 2 f) v (ap (version_answer s.number) (sym nodes) ∙ h) in (
          app_read back held (replayed order s.number) maps counters (length first_ones) few kept e v.0 stand.1.0 stand.1.1.1.0 parts.0,
          protocol_read back held (quorum_of first_ones) only (quorums first_ones numbered read_back) f v.1 rest.1.0 rest.1.1.1.0 parts.1,
        )

    -- what is read of it
    record IsRight (v : AVersion) : Type 0 where
      channels : v.channels ≡ replayed order s.number
      quorum : v.quorum ≡ quorum_of first_ones

    honest_version : (v : AVersion) → IsHonest held order s → version_at held s ≡ Ok v → IsRight v
    honest_version v stands h =
        let one = bind_ok (entries_at held s.handle) _ v h in
        let two = bind_ok (version_answer s.number (children (nodes_within held 2 one.0))) _ v one.1.1 in
        let es = stands.1.0 in
        let cs = pair (app_tree (replayed order s.number)) (protocol (blobs_of (quorum_of first_ones))) in
        let fit = standing_fit held es cs stands.1.1.1 stands.0 version_names in
        let same = reread_tree back held s.handle es (Tree one.0) fit.apart fit.fit stands.1.1.0 (tree_of (object_at held s.handle) one.0 one.1.0) in
        let sorted : one.0 ≡ in_order es = cc in
        let read = by_entries es one.0 two.0 stands.1.1.1 sorted two.1.0 in
        let made : record { channels = two.0.0; quorum = two.0.1; base = id_named s.handle app_name one.0 } ≡ v = let k = two.1.1 in cc in
        record { channels = ap (λ (w : AVersion). w.channels) (sym made) ∙ read.0; quorum = ap (λ (w : AVersion). w.quorum) (sym made) ∙ read.1 }

    behind_honest : (client : List ℕ) (ledger : Option Ledger) (limit : ℕ) (v : AVersion) → IsHonest held order s → version_at held s ≡ Ok v
        → HasReplayed (record { order = order; held = held; ledger = ledger; limit = limit }) (behind client (begun v.channels v.quorum s.number v.base) (drop s.number order))
    behind_honest client ledger limit v stands h =
        let right = honest_version v stands h in
        let first = begun v.channels v.quorum s.number v.base in
        let later = drop s.number order in
        let all = take-append-drop s.number order in
        record {
          channels =
              behind_channels client first later ∙ ap (λ c. replay c later) right.channels ∙ sym (replayed_on_law no_channels first_ones later) ∙ ap (replay no_channels) all;
          quorum = behind_quorum law client first first_ones later (subst AreFirst (sym all) is_order.numbered) right.quorum ∙ ap quorum_of all;
          pending = behind_pending client first later refl;
          based = behind_based stays unmarked held client first later (each_drop IsReadAsItself s.number order (each-all IsReadAsItself order is_order.read_back)) (version_based marked held s v h);
        }

    -- the version is read, where nothing that is held is too long
    version_read : TextsAreRead → TextsArePrinted → TextsAreWritable → IsShort held → s.number ≤ length order → IsHonest held order s → (v : AVersion) × (version_at held s ≡ Ok v)
    version_read reads prints writes short within stands = by_entries_of stands.1.0 stands.1.1.0 stands.1.1.1
      where
        each_said : Each IsSpoken first_ones
        each_said = each_spoken reads first_ones each_back (each-all (λ m. IsUtf8 (message_printed m)) first_ones (All-take (λ m. IsUtf8 (message_printed m)) s.number order is_order.utf8))

        by_entries_of : (es : List ObjectEntry) → get held s.handle ≡ Some (tree_bytes es) → AllStand held es (pair (app_tree (replayed order s.number)) (protocol (blobs_of (quorum_of first_ones))))
            → (v : AVersion) × (version_at held s ≡ Ok v)
        by_entries_of [] here stand = absurd stand
        by_entries_of (e ∷ []) here stand = absurd stand.1.1.1.1
        by_entries_of (e ∷ f ∷ g ∷ gs) here stand = absurd stand.1.1.1.1.1.1.1.1
        by_entries_of (e ∷ f ∷ []) here stand =
            let rest = stand.1.1.1.1 in
            let fit = standing_fit held (e ∷ f ∷ []) (pair (app_tree (replayed order s.number)) (protocol (blobs_of (quorum_of first_ones)))) stand stands.0 version_names in
            let sorted : in_order (e ∷ f ∷ []) ≡ e ∷ f ∷ [] = two_in_order e f (keys_are e f app_name protocol_name true true stand.0 stand.1.0 rest.0 rest.1.0) in
            let root : entries_at held s.handle ≡ Ok (e ∷ f ∷ []) = ap entries_of (tree_at back held short s.handle (e ∷ f ∷ []) fit here) ∙ ap Ok sorted in
            let x = node_within held 2 e in
            let y = node_within held 2 f in
            let app_is = app_exact back held short (replayed order s.number) (λ at channel is. (kept at channel is).0) maps counters (length first_ones) few kept
            (contents_text reads prints writes (length first_ones) (replayed order s.number) kept (replay_text reads first_ones no_channels each_said (no_channels_text reads))) e stand.1.0 stand.1.1.1.0 in
            let state = protocol_exact back held short (quorum_of first_ones) only (quorums first_ones numbered read_back) (quorum_text reads prints writes first_ones numbered read_back each_said) f rest.1.0 rest.1.1.1.0 in
            let number : ((quorum_of first_ones).number == s.number) ≡ true = same_number within in
            let inner_q : quorum_answer s.number y ≡ Ok (quorum_of first_ones) =
            ap (λ b. cond b (of_number s.number (quorum.number_in y) >>= λ _. blob_under protocol_name (quorum.answer y)) (Err protocol_name)) state.0
            ∙ ap (λ r. r >>= λ _. blob_under protocol_name (quorum.answer y)) (number_right attributes s.number y (quorum_of first_ones) state.1 number)
            ∙ ap (blob_under protocol_name) state.1 in
            let both : version_answer s.number (pair x y) ≡ Ok (replayed order s.number, quorum_of first_ones) =
            ap (λ r. blob_under app_name r >>= λ c. (quorum_answer s.number y >>= λ q. Ok (c, q))) app_is ∙ ap (λ r. r >>= λ q. Ok (replayed order s.number, q)) inner_q in
            let named : children (nodes_within held 2 (e ∷ f ∷ [])) ≡ pair x y = (λ i. child (stand.0 i) x (child (rest.0 i) y no_children)) in (
              record { channels = replayed order s.number; quorum = quorum_of first_ones; base = id_named s.handle app_name (e ∷ f ∷ []) },
              ap
                  (λ r. r >>= λ entries. version_answer s.number (children (nodes_within held 2 entries)) >>= λ v. Ok (record { channels = v.0; quorum = v.1; base = id_named s.handle app_name entries }))
                  root
                  ∙ ap (λ cs. version_answer s.number cs >>= λ v. Ok (record { channels = v.0; quorum = v.1; base = id_named s.handle app_name (e ∷ f ∷ []) })) named
                  ∙ ap (λ r. r >>= λ v. Ok (record { channels = v.0; quorum = v.1; base = id_named s.handle app_name (e ∷ f ∷ []) })) both,
            )

  behind_nothing : (client : List ℕ) (document : Document) → IsOrder document.order → HasReplayed document (behind client empty (drop 0 document.order))
  behind_nothing client document is_order = record {
    channels = behind_channels client empty document.order;
    quorum = behind_quorum law client empty [] document.order is_order.numbered refl;
    pending = behind_pending client empty document.order refl;
    based = behind_based stays unmarked document.held client empty document.order (each-all IsReadAsItself document.order is_order.read_back) (record { named = none_named; on = refl });
  }

  by_picked : (client : List ℕ) (document : Document) (o : Option SummaryRef) (first : AContainer) → IsOrder document.order
      → ((s : SummaryRef) → o ≡ Some s → IsHonest document.held document.order s) → begun_picked document.held o ≡ Ok first
      → HasReplayed document (behind client first (drop first.number document.order))
  by_picked client document None first is_order honest h = cc
  by_picked client document (Some s) first is_order honest h = by_version (version_at document.held s) refl h
    where
      by_version : (r : Result AVersion (List ℕ)) → version_at document.held s ≡ r → or_bad (begun_of s.number r) ≡ Ok first → HasReplayed document (behind client first (drop first.number document.order))
      by_version (Err path) is k = cc
      by_version (Ok v) is k =
          let made : begun v.channels v.quorum s.number v.base ≡ first = cc in
          subst (λ c. HasReplayed document (behind client c (drop c.number document.order))) made (behind_honest document.order is_order document.held s client document.ledger document.limit v (honest s refl) is)

  pub whole_replay : IsWholeReplay
  whole_replay client document Empty first is_order honest h =
      let made : empty ≡ first = cc in
      subst (λ c. HasReplayed document (behind client c (drop c.number document.order))) made (behind_nothing client document is_order)
  whole_replay client document Latest first is_order honest h = by_picked client document (picked Latest document.order) first is_order honest h
  whole_replay client document (Handle id) first is_order honest h = by_picked client document (picked (Handle id) document.order) first is_order honest h

  pub honest_read : TextsAreRead → TextsArePrinted → TextsAreWritable → IsHonestRead
  honest_read reads prints writes document s is within stands = version_read document.order is.in_order document.held s reads prints writes is.short within stands

  -- one that begins with an honest summary is behind the first messages
  follows_picked : (document : Document) (o : Option SummaryRef) (first : AContainer) → IsOrder document.order → ((s : SummaryRef) → o ≡ Some s → s.number ≤ length document.order)
      → ((s : SummaryRef) → o ≡ Some s → IsHonest document.held document.order s) → begun_picked document.held o ≡ Ok first → Follows document.order first
  follows_picked document None first is_order within honest h = cc
  follows_picked document (Some s) first is_order within honest h = by_version (version_at document.held s) refl h
    where
      by_version : (r : Result AVersion (List ℕ)) → version_at document.held s ≡ r → or_bad (begun_of s.number r) ≡ Ok first → Follows document.order first
      by_version (Err path) is k = cc
      by_version (Ok v) is k =
          let made : begun v.channels v.quorum s.number v.base ≡ first = cc in
          let right = honest_version document.order is_order document.held s v (honest s refl) is in
          subst (Follows document.order) made (record { within = within s refl; channels = right.channels; quorum = right.quorum })

  pub follows_honest : (document : Document) (pick : Pick) (first : AContainer) → IsOrder document.order → IsHonestPick pick document → begun_in pick document ≡ Ok first → Follows document.order first
  follows_honest document Empty first is_order honest h = let made : empty ≡ first = cc in subst (Follows document.order) made (record { within = omega arith; channels = refl; quorum = refl })
  follows_honest document Latest first is_order honest h =
      follows_picked document (picked Latest document.order) first is_order (λ s is. picked_within Latest document.order s is_order is) honest h
  follows_honest document (Handle id) first is_order honest h =
      follows_picked document (picked (Handle id) document.order) first is_order (λ s is. picked_within (Handle id) document.order s is_order is) honest h
