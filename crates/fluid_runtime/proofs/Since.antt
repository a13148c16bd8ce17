-- What has changed since an earlier tree.
use Rattle.std.proofs.Common.{◌≡◌, ℕ, ◌<◌, suc, Bool, true, false, cond, List, [], ◌∷◌, length, get_or, map, Option, Some, None, is_some, option_map, option_and_then, Ok, bytes_eq, if◌then◌else◌, refl, sym, ap, ◌∙◌, arith}
use Rattle.std.specs.Option.{unwrap_or, ok_or}
use Rattle.std.specs.FinMap.{entries, get, get-entries}
use Rattle.std.specs.FinMap.Entries.{find}
use Rattle.std.proofs.lemmas.Map.Text.{is_eq-slice_cmp}
use Rattle.std.proofs.lemmas.Option.{same_Some}
use Rattle.std.proofs.lemmas.Bool.{false≢true}
use Rattle.fluid_table.specs.Table.{byte_order, Values}
use Rattle.fluid_table.proofs.Places.{get_inserted}
use Rattle.fluid_tree.specs.Summary.{Summary, tree, handle, child, children}
use Rattle.fluid_handles.specs.Resolved.{resolved, all_resolved, named, at_path, ◌>>=◌}
use Rattle.fluid_edits.specs.declared.edit.Edit.{Edit}
use Rattle.fluid_edits.specs.Forms.{address_of}
use Rattle.fluid_edits.specs.Replay.{Channel, Channels, told, put_if_any}
use Rattle.fluid_runtime.specs.App.{after_any, changed_by, marked_if, all_are}
use Rattle.fluid_runtime.specs.AppTree.{channel_node, app_tree, node_since, tree_since}
use Rattle.fluid_runtime.specs.Laws.{IsSince, IsUnmarked}
use Rattle.fluid_runtime.proofs.Each.{each_inserted, get_found}
use Rattle.fluid_runtime.proofs.Nodes.{found_there, map_alike}

-- ---- it stays so

elsewhere : (earlier channels : Channels) (changed : Values Bool) (at : List ℕ) (put : Channel) → IsSince earlier changed channels → (q : List ℕ) (b : Bool) → bytes_eq q at ≡ b
    → cond b (Some true) (get changed q) ≡ Some false → get earlier q ≡ cond b (Some put) (get channels q)
elsewhere earlier channels changed at put since q true own is = absurd (false≢true (sym (same_Some _ _ is)))
elsewhere earlier channels changed at put since q false own is = since q is

after_told : (earlier channels : Channels) (changed : Values Bool) (at : List ℕ) (said : Option Channel) → IsSince earlier changed channels
    → IsSince earlier (marked_if changed at (is_some said)) (put_if_any channels at said)
after_told earlier channels changed at None since = since
after_told earlier channels changed at (Some put) since =
    λ q is.
    elsewhere earlier channels changed at put since q (bytes_eq q at) refl (sym (get_inserted changed at true q) ∙ is) ∙ sym (get_inserted channels at put q)

pub after_edit : (earlier channels : Channels) (changed : Values Bool) (edit : Option Edit) → IsSince earlier changed channels
    → IsSince earlier (changed_by channels changed edit) (after_any channels edit)
after_edit earlier channels changed None since = since
after_edit earlier channels changed (Some edit) since = after_told earlier channels changed (address_of edit) (told edit (get channels (address_of edit))) since

-- ---- the node of an address in the earlier tree

moved : (b : Bool) (channel : Channel) (before : Option Channel) → cond b (Some (channel_node channel)) (option_map channel_node before) ≡ option_map channel_node (cond b (Some channel) before)
moved true channel before = refl
moved false channel before = refl

named_found : (at : List ℕ) (es : List (List ℕ × Channel)) → named at (children (map (λ e. (e.0, channel_node e.1)) es)) ≡ option_map channel_node (find byte_order at es)
named_found at [] = refl
named_found at (e ∷ es) =
    ap (cond (bytes_eq at e.0) (Some (channel_node e.1))) (named_found at es)
    ∙ moved (bytes_eq at e.0) e.1 (find byte_order at es)
    ∙ ap (λ b. option_map channel_node (cond b (Some e.1) (find byte_order at es))) (sym (is_eq-slice_cmp at e.0))

in_tree : (earlier : Channels) (at : List ℕ) (channel : Channel) → get earlier at ≡ Some channel → option_and_then (at_path (at ∷ [])) (Some (app_tree earlier)) ≡ Some (channel_node channel)
in_tree earlier at channel is =
    ap (option_and_then (at_path [])) (named_found at (entries earlier) ∙ ap (option_map channel_node) (sym (get-entries earlier at) ∙ is))

-- ---- the whole tree

by_change : (earlier channels : Channels) (changed : Values Bool) (at : List ℕ) (channel : Channel) (said : Option Bool) → get changed at ≡ said → IsSince earlier changed channels
    → get channels at ≡ Some channel
    → resolved (Some (app_tree earlier)) (if unwrap_or said true then channel_node channel else handle (at ∷ [])) ≡ Ok (channel_node channel)
by_change earlier channels changed at channel None is since found = refl
by_change earlier channels changed at channel (Some true) is since found = refl
by_change earlier channels changed at channel (Some false) is since found = ap (λ node. ok_or node (at ∷ [])) (in_tree earlier at channel (since at is ∙ found))

one_node : (earlier channels : Channels) (changed : Values Bool) → IsSince earlier changed channels → (at : List ℕ) (channel : Channel) → get channels at ≡ Some channel
    → resolved (Some (app_tree earlier)) (node_since changed at channel) ≡ Ok (channel_node channel)
one_node earlier channels changed since at channel found = by_change earlier channels changed at channel (get changed at) refl since found

all_nodes : (base : Option Summary) (node whole : List ℕ → Channel → Summary) (es : List (List ℕ × Channel))
    → ((n : ℕ) (d : List ℕ × Channel) → n < length es → resolved base (node (get_or es n d).0 (get_or es n d).1) ≡ Ok (whole (get_or es n d).0 (get_or es n d).1))
    → all_resolved base (children (map (λ e. (e.0, node e.0 e.1)) es)) ≡ Ok (children (map (λ e. (e.0, whole e.0 e.1)) es))
all_nodes base node whole [] each = refl
all_nodes base node whole (e ∷ es) each =
    ap (λ r. r >>= λ s. (all_resolved base (children (map (λ e. (e.0, node e.0 e.1)) es)) >>= λ rest. Ok (child e.0 s rest))) (each 0 e (omega arith))
    ∙ ap (λ r. r >>= λ rest. Ok (child e.0 (whole e.0 e.1) rest)) (all_nodes base node whole es (λ n d within. each (suc n) d (omega (arith, within))))

pub whole_tree : (earlier channels : Channels) (changed : Values Bool) → IsSince earlier changed channels
    → resolved (Some (app_tree earlier)) (tree_since changed channels) ≡ Ok (app_tree channels)
whole_tree earlier channels changed since =
    ap (λ r. r >>= λ nodes. Ok (tree nodes))
    (all_nodes (Some (app_tree earlier)) (node_since changed) (λ at channel. channel_node channel) (entries channels)
    (λ n d within. one_node earlier channels changed since (get_or (entries channels) n d).0 (get_or (entries channels) n d).1 (found_there channels n d within)))

-- ---- without a mark

one_marked : (channels : Channels) (at : List ℕ) (said : Option Channel) → marked_if (all_are true channels) at (is_some said) ≡ all_are true (put_if_any channels at said)
one_marked channels at None = refl
one_marked channels at (Some put) = sym (each_inserted (λ channel. true) channels at put)

pub still_unmarked : (channels : Channels) (changed : Values Bool) (edit : Option Edit) → IsUnmarked channels changed → IsUnmarked (after_any channels edit) (changed_by channels changed edit)
still_unmarked channels changed None unmarked = unmarked
still_unmarked channels changed (Some edit) unmarked =
    let said = told edit (get channels (address_of edit)) in
    ap (λ marks. marked_if marks (address_of edit) (is_some said)) unmarked ∙ one_marked channels (address_of edit) said

whole_node : (channels : Channels) (at : List ℕ) (channel : Channel) → get channels at ≡ Some channel → node_since (all_are true channels) at channel ≡ channel_node channel
whole_node channels at channel found =
    ap (λ said. if unwrap_or said true then channel_node channel else handle (at ∷ [])) (get_found (λ one. true) channels at channel found)

pub whole_unmarked : (channels : Channels) (changed : Values Bool) → IsUnmarked channels changed → tree_since changed channels ≡ app_tree channels
whole_unmarked channels changed unmarked =
    ap (λ marks. tree_since marks channels) unmarked
    ∙ ap (λ nodes. tree (children nodes))
    (map_alike (λ e. (e.0, node_since (all_are true channels) e.0 e.1)) (λ e. (e.0, channel_node e.1)) (entries channels)
    (λ n d within.
    let e = get_or (entries channels) n d in
    ap (λ node. (e.0, node)) (whole_node channels e.0 e.1 (found_there channels n d within))))
