use Rattle.std.proofs.Common.{◌≡◌, ℕ, List, [], ◌∷◌, map, Option, Some, None, slice_get, option_map, refl, ap, sym, ◌∙◌}
use Rattle.std.specs.Option.{option_copied}
use Rattle.std.specs.Borrow.{Bor}
use Rattle.std.specs.FinMap.{entries-from_sorted}
use Rattle.fluid_table.specs.Table.{byte_order}
use Rattle.fluid_table.specs.Keyed.{pairs_of}
use Rattle.fluid_table.proofs.Places.{holds}
use Rattle.fluid_table.proofs.map.SortedMap.first.Goals as goal

module _ {K V : Type 0} (text : K → List ℕ) where
  abbrev seen : K × V → List ℕ × V
  seen pair = (text pair.0, pair.1)

  copied : (result : Option (Bor (K × V))) → option_map (λ pair. (text pair.now.0, pair.now.1)) result ≡ option_map seen (option_copied result)
  copied None = refl
  copied (Some pair) = refl

  first_mapped : (xs : List (K × V)) → option_map seen (slice_get xs 0) ≡ slice_get (map seen xs) 0
  first_mapped [] = refl
  first_mapped (x ∷ xs) = refl

  first_of : (result : Option (Bor (K × V))) (xs : List (K × V)) (es : List (List ℕ × V)) → option_copied result ≡ slice_get xs 0 →
      es ≡ pairs_of (λ pair. text pair.0) (λ pair. pair.1) xs → option_map (λ pair. (text pair.now.0, pair.now.1)) result ≡ slice_get es 0
  first_of result xs es is are = copied result ∙ ap (option_map seen) is ∙ first_mapped xs ∙ ap (λ l. slice_get l 0) (sym are)

pub returns : goal.returns
returns g c =
    rw (← c.self.view_is)
    (first_of g.K.Key.text_of c.first.result c.self.inside.pairs.items _ (c.first.ensures.value ∙ ap (λ l. slice_get l 0) c.deref.ensures.value) (entries-from_sorted byte_order _ (holds _ c.self.invariant)))
