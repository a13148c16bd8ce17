-- Records behind a keeper's log, for the crates above.
use Rattle.std.proofs.Common.{◌≡◌, ℕ, List, [], ◌∷◌, ◌++◌, length, Option, Some, None, refl, sym, ap, ◌∙◌, arith, append_assoc, append-nil, length-append}
use Rattle.std.specs.Option.{option_map}
use Rattle.fluid_log.specs.Keeping.{Content, Keeping}
use Rattle.fluid_log.specs.Calls.{KeepsSame, add_record, with_record, add_records, with_records}

-- ---- what is told

nothing_added : (told : Option Content) → told ≡ option_map (add_records []) told
nothing_added None = refl
nothing_added (Some c) = ap (λ log. Some (record c { log = log })) (sym (append-nil c.log))

one_added : (more : List (List ℕ)) (bytes : List ℕ) (told : Option Content) → option_map (add_record bytes) (option_map (add_records more) told) ≡ option_map (add_records (more ++ bytes ∷ [])) told
one_added more bytes None = refl
one_added more bytes (Some c) = ap (λ log. Some (record c { log = log })) (append_assoc c.log more (bytes ∷ []))

-- ---- keepers

-- one more behind these
pub with_more : (more : List (List ℕ)) (bytes : List ℕ) (old mid new : Keeping) → KeepsSame (with_records more old) mid → KeepsSame (with_record bytes mid) new → KeepsSame (with_records (more ++ bytes ∷ []) old) new
with_more more bytes old mid new first next = record {
  content = next.content ∙ ap (option_map (add_record bytes)) first.content ∙ one_added more bytes old.content;
  records = omega (arith, next.records, first.records, length-append more (bytes ∷ []));
  deltas = next.deltas ∙ first.deltas;
  checkpoints = next.checkpoints ∙ first.checkpoints;
}
