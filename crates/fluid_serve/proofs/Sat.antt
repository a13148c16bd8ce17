-- A session of `serve` behind one cycle more.
use Rattle.std.proofs.Common.{◌≡◌, Bool, true, false, Option, Some, None, is_some, refl, sym, subst, ◌∙◌}
use Rattle.std.proofs.lemmas.Bool.{false≢true}
use Rattle.fluid_lines.specs.Wires.{Wiring}
use Rattle.fluid_locked.specs.declared.counts.Counts.{Counts}
use Rattle.fluid_session.specs.declared.report.Report.{Report}
use Rattle.fluid_hosting.specs.Hosting.{Hosting, ComesFurther}
use Rattle.fluid_serve.specs.Sittings.{Sat, IsUnderWay, IsSession, store_of, untouched}

-- the same session, so much further
abbrev pub behind : Sat → Hosting → Counts → Wiring → Sat
behind s h counts wire = record { hosting = h; wire = wire; counts = counts; key = s.key; first = s.first }

-- the store began as the session had left it, and is left with these counts
told : (s : Sat) (h : Hosting) (counts began ended : Counts) (wire : Wiring) (result : Option Report) → began ≡ s.counts → counts ≡ ended → ComesFurther s.hosting h (store_of began) (store_of ended) s.wire wire result
    → ComesFurther s.hosting h (store_of s.counts) (store_of counts) s.wire wire result
told s h counts began ended wire result from to further =
    subst (λ (c : Counts). ComesFurther s.hosting h (store_of s.counts) (store_of c) s.wire wire result) (sym to)
    (subst (λ (c : Counts). ComesFurther s.hosting h (store_of c) (store_of ended) s.wire wire result) from further)

module _ (s : Sat) (h : Hosting) (counts began ended : Counts) (wire : Wiring) (way : IsUnderWay s) (going : s.hosting.is_over ≡ false) (same : h.service ≡ s.hosting.service) (from : began ≡ s.counts) (to : counts ≡ ended) where
  by_cycle : (result : Option Report) → h.is_over ≡ is_some result → ComesFurther s.hosting h (store_of s.counts) (store_of counts) s.wire wire result → IsUnderWay (behind s h counts wire)
  by_cycle None over further = record { service = way.service ∙ sym same; new = way.new; comes = λ again. further s.key None untouched s.first (way.comes going) }
  by_cycle (Some report) over further = record { service = way.service ∙ sym same; new = way.new; comes = λ again. absurd (false≢true (sym again ∙ over)) }

  by_last : (result : Option Report) → ComesFurther s.hosting h (store_of s.counts) (store_of counts) s.wire wire result → IsSession (behind s h counts wire) result
  by_last None further = tt
  by_last (Some report) further = record { service = way.service ∙ sym same; new = way.new; hosts = further s.key None untouched s.first (way.comes going) }

  pub goes_on : (result : Option Report) → h.is_over ≡ is_some result → ComesFurther s.hosting h (store_of began) (store_of ended) s.wire wire result → IsUnderWay (behind s h counts wire)
  goes_on result over further = by_cycle result over (told s h counts began ended wire result from to further)

  pub is_session : (result : Option Report) → ComesFurther s.hosting h (store_of began) (store_of ended) s.wire wire result → IsSession (behind s h counts wire) result
  is_session result further = by_last result (told s h counts began ended wire result from to further)
