-- What is written of channels is read back in whatever order they stand.
use Rattle.std.proofs.Common.{◌≡◌, ◌≢◌, inl, inr, ℕ, Bool, true, false, cond, List, [], ◌∷◌, map, Option, Some, None, Ok, bytes_eq, refl, sym, ap, ◌∙◌}
use Rattle.std.specs.Prelude.{fold}
use Rattle.std.specs.List.{AllByRecursion}
use Rattle.std.specs.FinMap.{get, insert, get-empty}
use Rattle.std.proofs.lemmas.Slice.Eq.{bytes_eq-Decides}
use Rattle.fluid_table.specs.Table.{byte_order}
use Rattle.fluid_table.proofs.Places.{get_inserted, same_values}
use Rattle.fluid_tree.specs.Summary.{children}
use Rattle.fluid_map.specs.Laws as map_laws
use Rattle.fluid_counter.specs.Laws as counter_laws
use Rattle.fluid_edits.specs.Replay.{Channel, Channels, no_channels}
use Rattle.fluid_runtime.specs.AppTree.{channel_node, channels_answer, answer, ◌>>=◌}
use Rattle.fluid_runtime.specs.Laws.{AreStorable, Pairs, AreApart, IsNamed, IsListOf, tree_in_order}
use Rattle.fluid_runtime.proofs.ReadBack.{read_entry, read_in}

put : Channels → List ℕ × Channel → Channels
put so_far e = insert so_far e.0 e.1

unequal : (q k : List ℕ) → q ≢ k → bytes_eq q k ≡ false
unequal q k differ = by_test (bytes_eq q k) refl
  where
    by_test : (b : Bool) → bytes_eq q k ≡ b → b ≡ false
    by_test true is = absurd (differ ((bytes_eq-Decides q k).0 is))
    by_test false is = refl

equal : (q : List ℕ) → bytes_eq q q ≡ true
equal q = (bytes_eq-Decides q q).1 refl

-- none of these addresses has a channel yet
AreFresh : Channels → Pairs → Type 0
AreFresh so_far [] = Unit {0}
AreFresh so_far (e ∷ es) = (get so_far e.0 ≡ None) × AreFresh so_far es

fresh_still : (so_far : Channels) (k : List ℕ) (channel : Channel) (es : Pairs) → AllByRecursion (λ f. k ≢ f.0) es → AreFresh so_far es → AreFresh (insert so_far k channel) es
unfolding AreFresh
fresh_still so_far k channel [] apart h = tt
fresh_still so_far k channel (e ∷ es) apart h = (
  get_inserted so_far k channel e.0 ∙ ap (λ b. cond b (Some channel) (get so_far e.0)) (unequal e.0 k (λ same. apart.0 (sym same))) ∙ h.0,
  fresh_still so_far k channel es apart.1 h.1,
)

all_fresh : (es : Pairs) → AreFresh no_channels es
unfolding AreFresh
all_fresh [] = tt
all_fresh (e ∷ es) = (get-empty byte_order e.0, all_fresh es)

module _ (maps : map_laws.IsReadBack) (counters : counter_laws.IsReadBack) (channels : Channels) (storable : AreStorable channels) where
  read_all : (es : Pairs) (so_far : Channels) → AreApart es → AllByRecursion (λ e. get channels e.0 ≡ Some e.1) es → AreFresh so_far es
      → channels_answer so_far (children (map (λ e. (e.0, channel_node e.1)) es)) ≡ Ok (fold put so_far es)
  unfolding AreFresh put
  read_all [] so_far apart each fresh = refl
  read_all (e ∷ es) so_far apart each fresh =
      let is = storable e.0 e.1 each.0 in
      ap (λ r. r >>= λ channel. channels_answer (insert so_far e.0 channel) (children (map (λ f. (f.0, channel_node f.1)) es))) (read_entry so_far e.0 e.1 is.0 fresh.0 (read_in maps counters e.1 is.1))
      ∙ read_all es (insert so_far e.0 e.1) apart.1 each.1 (fresh_still so_far e.0 e.1 es apart.0 fresh.1)

  got_out : (es : Pairs) (so_far : Channels) (q : List ℕ) → (IsNamed q es → ⊥) → get (fold put so_far es) q ≡ get so_far q
  unfolding put
  got_out [] so_far q out = refl
  got_out (e ∷ es) so_far q out =
      got_out es (insert so_far e.0 e.1) q (λ h. out (inr h))
      ∙ get_inserted so_far e.0 e.1 q ∙ ap (λ b. cond b (Some e.1) (get so_far q)) (unequal q e.0 (λ same. out (inl (sym same))))

  named_later : (k q : List ℕ) (es : Pairs) → AllByRecursion (λ f. k ≢ f.0) es → IsNamed q es → k ≢ q
  named_later k q [] apart h = absurd h
  named_later k q (e ∷ es) apart (inl is) = λ same. apart.0 (same ∙ sym is)
  named_later k q (e ∷ es) apart (inr h) = named_later k q es apart.1 h

  got_in : (es : Pairs) (so_far : Channels) (q : List ℕ) → AreApart es → AllByRecursion (λ e. get channels e.0 ≡ Some e.1) es → IsNamed q es → get (fold put so_far es) q ≡ get channels q
  unfolding put
  got_in [] so_far q apart each h = absurd h
  got_in (e ∷ es) so_far q apart each (inl is) =
      got_out es (insert so_far e.0 e.1) q (λ later. named_later e.0 q es apart.0 later is)
      ∙ get_inserted so_far e.0 e.1 q
      ∙ ap (λ b. cond b (Some e.1) (get so_far q)) (ap (bytes_eq q) is ∙ equal q) ∙ sym each.0 ∙ ap (get channels) is
  got_in (e ∷ es) so_far q apart each (inr h) = got_in es (insert so_far e.0 e.1) q apart.1 each.1 h

  none_named : (es : Pairs) (q : List ℕ) → AllByRecursion (λ e. get channels e.0 ≡ Some e.1) es → get channels q ≡ None → IsNamed q es → ⊥
  none_named [] q each none h = h
  none_named (e ∷ es) q each none (inl is) = let both : Some e.1 ≡ None = sym each.0 ∙ ap (get channels) is ∙ none in cc
  none_named (e ∷ es) q each none (inr h) = none_named es q each.1 none h

  all_put : (pairs : Pairs) → IsListOf channels pairs → fold put no_channels pairs ≡ channels
  all_put pairs are = same_values _ _ (λ q. by_found q (get channels q) refl)
    where
      by_found : (q : List ℕ) (found : Option Channel) → get channels q ≡ found → get (fold put no_channels pairs) q ≡ get channels q
      by_found q None is = got_out pairs no_channels q (none_named pairs q are.each is) ∙ get-empty byte_order q ∙ sym is
      by_found q (Some channel) is = got_in pairs no_channels q are.apart are.each (are.all q channel is)

  pub read_back_so : (pairs : Pairs) → IsListOf channels pairs → answer (tree_in_order pairs) ≡ Ok channels
  unfolding answer
  read_back_so pairs are = read_all pairs no_channels are.apart are.each (all_fresh pairs) ∙ ap Ok (all_put pairs are)
