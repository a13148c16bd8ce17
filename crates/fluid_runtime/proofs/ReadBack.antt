-- What is written of channels is read back.
use Rattle.std.proofs.Common.{◌≡◌, ℕ, ℤ, suc, ◌<◌, Bool, true, false, cond, not, ◌&&◌, T, List, [], ◌∷◌, length, get_or, map, Option, Some, None, is_some, Result, Ok, Err, bytes_eq, codes, if◌then◌else◌, refl, sym, ap, ◌∙◌, arith}
use Rattle.std.specs.Prelude.{fold}
use Rattle.std.specs.Ordering.{is_lt, is_eq, ordering_reverse}
use Rattle.std.specs.declared.cmp.Ordering.TheVariants.{Less}
use Rattle.std.specs.Option.{ok_or, option_or}
use Rattle.std.proofs.lemmas.Bool.{false≢true}
use Rattle.std.proofs.lemmas.Slice.Eq.{bytes_eq-Decides}
use Rattle.std.specs.FinMap.{entries, get, insert, get-empty, get-entries, entries_sorted}
use Rattle.std.specs.FinMap.Entries.{find, below_all, is_sorted}
use Rattle.std.proofs.lemmas.Map.Text.{is_eq-slice_cmp}
use Rattle.fluid_table.specs.Table.{byte_order}
use Rattle.fluid_table.proofs.Places.{get_inserted, same_values, byte_order_total}
use Rattle.fluid_table.proofs.Ordered.{first, second, less, turned}
use Rattle.fluid_types.specs.Names.{IsName, is_name}
use Rattle.fluid_types.specs.declared.fault.BlobFault.{BlobFault}
use Rattle.fluid_types.specs.declared.fault.BlobFault.TheVariants.{BadBlob}
use Rattle.fluid_tree.specs.Summary.{children, as_children}
use Rattle.fluid_map.specs.Laws as map_laws
use Rattle.fluid_map.specs.Content as map_content
use Rattle.fluid_map.specs.Replay as map
use Rattle.fluid_counter.specs.Laws as counter_laws
use Rattle.fluid_counter.specs.Content as counter_content
use Rattle.fluid_counter.specs.Counter as counter
use Rattle.fluid_edits.specs.Replay.{Channel, a_map, a_counter, Channels, no_channels, kind_of}
use Rattle.fluid_runtime.specs.AppTree.{channel_node, app_tree, content_of, channel_in, entry_answer, subtree, channels_answer, answer, path, ◌>>=◌}
use Rattle.fluid_runtime.specs.Laws.{IsStorable, AreStorable}
use Rattle.fluid_runtime.proofs.Nodes.{found_there}

-- ---- a content

map_in : map.Values → Result map.Shared BlobFault → map.Values
map_in values (Ok shared) = shared.acknowledged
map_in values (Err fault) = values

pub map_said : (b : Bool) (read values : map.Values) (fault : BlobFault)
    → ◌≡◌ {A = Result map.Shared BlobFault} (if b then Ok (record { acknowledged = read; pending = [] }) else Err fault) (Ok (record { acknowledged = values; pending = [] }))
    → ◌≡◌ {A = Option Channel} (if b then Some (a_map read) else None) (Some (a_map values))
unfolding map_in
map_said true read values fault is = ap (λ r. Some (a_map (map_in read r))) is
map_said false read values fault is = cc

total_in : ℤ → Result counter.Shared BlobFault → ℤ
total_in total (Ok shared) = shared.acknowledged
total_in total (Err fault) = total

pub counter_said : (b : Bool) (read total : ℤ) (fault : BlobFault)
    → ◌≡◌ {A = Result counter.Shared BlobFault} (if b then Ok (record { acknowledged = read; pending = [] }) else Err fault) (Ok (record { acknowledged = total; pending = [] }))
    → ◌≡◌ {A = Option Channel} (if b then Some (a_counter read) else None) (Some (a_counter total))
unfolding total_in
counter_said true read total fault is = ap (λ r. Some (a_counter (total_in read r))) is
counter_said false read total fault is = cc

pub read_in : map_laws.IsReadBack → counter_laws.IsReadBack → (channel : Channel) → IsStorable channel → channel_in (kind_of channel) (content_of channel) ≡ Some channel
read_in maps counters (a_map values) is =
    map_said (map_content.is_content (map_content.content values)) (map_content.values_in (map_content.content values)) values map_content.bad_content
    (maps values is.0 is.1.0 is.1.1)
read_in maps counters (a_counter total) is =
    counter_said (counter_content.is_content (counter_content.content total)) (counter_content.total_in (counter_content.content total)) total
    counter_content.bad_content (counters total is)

-- ---- a channel

read_channel : (at : List ℕ) (channel : Channel) → channel_in (kind_of channel) (content_of channel) ≡ Some channel → subtree at (as_children (channel_node channel)) ≡ Ok channel
read_channel at (a_map values) is = ap (λ found. ok_or found (BadBlob (path at (codes "content"))) >>= λ channel. Ok channel) is
read_channel at (a_counter total) is = ap (λ found. ok_or found (BadBlob (path at (codes "content"))) >>= λ channel. Ok channel) is

by_tests : (named stands : Bool) (one : Result Channel BlobFault) (other : BlobFault) → named ≡ true → stands ≡ false → (if named && not stands then one else Err other) ≡ one
by_tests true false one other is none = refl
by_tests true true one other is none = absurd (false≢true (sym none))
by_tests false stands one other is none = absurd (false≢true is)

pub read_entry : (so_far : Channels) (at : List ℕ) (channel : Channel) → IsName at → get so_far at ≡ None → channel_in (kind_of channel) (content_of channel) ≡ Some channel
    → entry_answer so_far at (channel_node channel) ≡ Ok channel
read_entry so_far at channel name none is =
    by_tests (is_name at) (is_some (get so_far at)) (subtree at (as_children (channel_node channel))) (BadBlob at) name (ap is_some none) ∙ read_channel at channel is

-- ---- all channels, one after the other

abbrev Pairs : Type 0
Pairs = List (List ℕ × Channel)

put : Channels → List ℕ × Channel → Channels
put so_far e = insert so_far e.0 e.1

-- none of these addresses has a channel yet
AreFresh : Channels → Pairs → Type 0
AreFresh so_far [] = Unit {0}
AreFresh so_far (e ∷ es) = (get so_far e.0 ≡ None) × AreFresh so_far es

differ : (k q : List ℕ) → T (is_lt (byte_order k q)) → (bytes_eq q k ≡ false) × (bytes_eq k q ≡ false)
differ k q is =
    let turn : byte_order q k ≡ ordering_reverse Less = turned byte_order_total k q Less (less (byte_order k q) is) in
    (sym (is_eq-slice_cmp q k) ∙ ap is_eq turn, sym (is_eq-slice_cmp k q) ∙ ap is_eq (less (byte_order k q) is))

fresh_still : (so_far : Channels) (k : List ℕ) (channel : Channel) (es : Pairs) → T (below_all byte_order k es) → AreFresh so_far es → AreFresh (insert so_far k channel) es
unfolding AreFresh
fresh_still so_far k channel [] below h = tt
fresh_still so_far k channel (e ∷ es) below h = (
  get_inserted so_far k channel e.0 ∙ ap (λ b. cond b (Some channel) (get so_far e.0)) (differ k e.0 (first _ _ below)).0 ∙ h.0,
  fresh_still so_far k channel es (second _ _ below) h.1,
)

not_found : (k : List ℕ) (es : Pairs) → T (below_all byte_order k es) → find byte_order k es ≡ None
not_found k [] below = refl
not_found k (e ∷ es) below =
    ap (λ b. cond b (Some e.1) (find byte_order k es)) (is_eq-slice_cmp k e.0 ∙ (differ k e.0 (first _ _ below)).1) ∙ not_found k es (second _ _ below)

one_more : (q k : List ℕ) (channel : Channel) (es : Pairs) (before : Option Channel) (b : Bool) → bytes_eq q k ≡ b → T (below_all byte_order k es)
    → option_or (find byte_order q es) (cond b (Some channel) before) ≡ option_or (cond b (Some channel) (find byte_order q es)) before
one_more q k channel es before false own below = refl
one_more q k channel es before true own below =
    ap (λ found. option_or found (Some channel)) (ap (λ key. find byte_order key es) ((bytes_eq-Decides q k).0 own) ∙ not_found k es below)

got : (es : Pairs) (so_far : Channels) (q : List ℕ) → T (is_sorted byte_order es) → get (fold put so_far es) q ≡ option_or (find byte_order q es) (get so_far q)
unfolding put
got [] so_far q sorted = refl
got (e ∷ es) so_far q sorted =
    got es (insert so_far e.0 e.1) q (second _ _ sorted)
    ∙ ap (option_or (find byte_order q es)) (get_inserted so_far e.0 e.1 q)
    ∙ one_more q e.0 e.1 es (get so_far q) (bytes_eq q e.0) refl (first _ _ sorted)
    ∙ ap (λ b. option_or (cond b (Some e.1) (find byte_order q es)) (get so_far q)) (sym (is_eq-slice_cmp q e.0))

none_behind : (found : Option Channel) → option_or found None ≡ found
none_behind None = refl
none_behind (Some channel) = refl

all_put : (channels : Channels) → fold put no_channels (entries channels) ≡ channels
all_put channels =
    same_values _ _ (λ q.
    got (entries channels) no_channels q (entries_sorted channels)
    ∙ ap (option_or (find byte_order q (entries channels))) (get-empty byte_order q)
    ∙ none_behind (find byte_order q (entries channels)) ∙ sym (get-entries channels q))

all_fresh : (es : Pairs) → AreFresh no_channels es
unfolding AreFresh
all_fresh [] = tt
all_fresh (e ∷ es) = (get-empty byte_order e.0, all_fresh es)

abbrev pub IsRead : List ℕ × Channel → Type 0
IsRead e = IsName e.0 × (channel_in (kind_of e.1) (content_of e.1) ≡ Some e.1)

read_all : (es : Pairs) (so_far : Channels) → T (is_sorted byte_order es) → AreFresh so_far es
    → ((n : ℕ) (d : List ℕ × Channel) → n < length es → IsRead (get_or es n d)) → channels_answer so_far (children (map (λ e. (e.0, channel_node e.1)) es)) ≡ Ok (fold put so_far es)
unfolding AreFresh put
read_all [] so_far sorted fresh each = refl
read_all (e ∷ es) so_far sorted fresh each =
    let own = each 0 e (omega arith) in
    ap (λ r. r >>= λ channel. channels_answer (insert so_far e.0 channel) (children (map (λ e. (e.0, channel_node e.1)) es))) (read_entry so_far e.0 e.1 own.0 fresh.0 own.1)
    ∙ read_all es (insert so_far e.0 e.1) (second _ _ sorted) (fresh_still so_far e.0 e.1 es (first _ _ sorted) fresh.1) (λ n d within. each (suc n) d (omega (arith, within)))

pub read_each : (channels : Channels)
    → ((n : ℕ) (d : List ℕ × Channel) → n < length (entries channels) → IsRead (get_or (entries channels) n d)) → answer (app_tree channels) ≡ Ok channels
unfolding answer
read_each channels each = read_all (entries channels) no_channels (entries_sorted channels) (all_fresh (entries channels)) each ∙ ap Ok (all_put channels)

pub read_back : map_laws.IsReadBack → counter_laws.IsReadBack → (channels : Channels) → AreStorable channels → answer (app_tree channels) ≡ Ok channels
read_back maps counters channels storable =
    read_each channels
    (λ n d within.
    let e = get_or (entries channels) n d in
    let is = storable e.0 e.1 (found_there channels n d within) in
    (is.0, read_in maps counters e.1 is.1))
