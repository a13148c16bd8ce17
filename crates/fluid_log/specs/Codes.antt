-- Keepings and shelvings as tuples of their parts.
use Rattle.std.specs.Prelude.{ℕ, List, Option, refl}
use Rattle.std.specs.Coded.{Coded, code_by, coded×, coded_ℕ, coded_list, coded_option}
use Rattle.std.specs.FinMap.{FinMap, code}
use Rattle.fluid_log.specs.Keeping.{Content, Keeping}
use Rattle.fluid_log.specs.Shelving.{Shelving, byte_order}

abbrev pub Texts : Type 0
Texts = List (List ℕ)

abbrev pub texts_code : Coded Texts
texts_code = coded_list (coded_list coded_ℕ)

abbrev pub content_code : Coded Content
content_code =
    code_by (Texts × (Texts × Texts)) (coded× texts_code (coded× texts_code texts_code)) (λ c. (c.log, (c.deltas, c.checkpoints)))
    (λ p. record { log = p.0; deltas = p.1.0; checkpoints = p.1.1 }) (λ _. refl)

abbrev pub keeping_code : Coded Keeping
keeping_code =
    code_by (Option Content × (ℕ × (ℕ × (ℕ × (ℕ × ℕ)))))
    (coded× (coded_option content_code) (coded× coded_ℕ (coded× coded_ℕ (coded× coded_ℕ (coded× coded_ℕ coded_ℕ)))))
    (λ k. (k.content, (k.records, (k.deltas, (k.checkpoints, (k.faults, k.reads))))))
    (λ p. record {
      content = p.0;
      records = p.1.0;
      deltas = p.1.1.0;
      checkpoints = p.1.1.1.0;
      faults = p.1.1.1.1.0;
      reads = p.1.1.1.1.1;
    })
    (λ _. refl)

abbrev pub shelving_code : Coded Shelving
shelving_code =
    code_by (Option (FinMap byte_order Keeping) × (FinMap byte_order ℕ × ℕ))
    (coded×
    (coded_option (code (coded_list coded_ℕ) keeping_code))
    (coded× (code (coded_list coded_ℕ) coded_ℕ) coded_ℕ))
    (λ s. (s.held, (s.out, s.faults)))
    (λ p. record { held = p.0; out = p.1.0; faults = p.1.1 })
    (λ _. refl)
