-- A session of `serve` on its wire, cycle by cycle.
use Rattle.std.specs.Prelude.{◌≡◌, ⊤, ℕ, false, List, [], Option, Some, None, refl}
use Rattle.std.specs.Coded.{Coded, code_by, coded×, coded_ℕ, coded_list, coded_option}
use Rattle.std.specs.Option.{option_or}
use Rattle.fluid_store.specs.Storing.{Storing}
use Rattle.fluid_lines.specs.declared.wire.WireText.{WireText}
use Rattle.fluid_lines.specs.contracts.wire.WireText as wire_texts
use Rattle.fluid_lines.specs.Wires.{Wiring}
use Rattle.fluid_locked.specs.declared.counts.Counts.{Counts}
use Rattle.fluid_locked.specs.Locked.{locked}
use Rattle.fluid_service.specs.Keys.{AKey}
use Rattle.fluid_connection.specs.Talked.{key_code}
use Rattle.fluid_session.specs.declared.report.Report.{Report}
use Rattle.fluid_hosting.specs.Hosting.{Hosting, HasCome, Hosts, hosting_code}

-- where the session stands, its wire, and what it counted of its own calls on the store; its key and its wire as they were when it began
pub record Sat : Type 0 where
  pub hosting : Hosting
  pub wire : Wiring
  pub counts : Counts
  pub key : AKey
  pub first : Wiring

-- the store as this session sees it
abbrev pub store_of : Counts → Storing
store_of counts = locked counts.faults counts.gets

abbrev pub untouched : Storing
untouched = locked 0 0

-- its key was one of its service, which had entered nothing. Where it isn't over, cycles brought it so far, without a visit at the beginning
pub record IsUnderWay (s : Sat) : Type 0 where
  pub service : s.key.turn ≡ s.hosting.service
  pub new : s.key.mine ≡ []
  pub comes : s.hosting.is_over ≡ false → HasCome s.key None untouched (store_of s.counts) s.first s.wire s.hosting.talk s.hosting.tally

-- a whole session of this wire, from such a key
pub record IsWhole (s : Sat) (report : Report) : Type 0 where
  pub service : s.key.turn ≡ s.hosting.service
  pub new : s.key.mine ≡ []
  pub hosts : Hosts s.key None untouched (store_of s.counts) s.first s.wire report s.hosting.talk.key (option_or s.hosting.talk.visit s.hosting.talk.handed)

-- what is reported is of a whole session
abbrev pub IsSession : Sat → Option Report → Type 0
IsSession s None = ⊤
IsSession s (Some report) = IsWhole s report

-- ---- as a tuple of its parts, for the proofs that tell values apart

abbrev wiring_code : Coded Wiring
wiring_code =
    code_by (Option (List WireText) × (Option (List (List ℕ)) × (ℕ × ℕ)))
    (coded× (coded_option (coded_list wire_texts.the_row.coded)) (coded× (coded_option (coded_list (coded_list coded_ℕ))) (coded× coded_ℕ coded_ℕ)))
    (λ w. (w.history, (w.texts, (w.quiets, w.faults))))
    (λ p. record { history = p.0; texts = p.1.0; quiets = p.1.1.0; faults = p.1.1.1 })
    (λ _. refl)

abbrev pub sat_code : Coded Sat
sat_code =
    code_by (Hosting × (Wiring × ((ℕ × ℕ) × (AKey × Wiring))))
    (coded× hosting_code (coded× wiring_code (coded× (coded× coded_ℕ coded_ℕ) (coded× key_code wiring_code))))
    (λ s. (s.hosting, (s.wire, ((s.counts.faults, s.counts.gets), (s.key, s.first)))))
    (λ p. record { hosting = p.0; wire = p.1.0; counts = record { faults = p.1.1.0.0; gets = p.1.1.0.1 }; key = p.1.1.1.0; first = p.1.1.1.1 })
    (λ _. refl)
