-- The list is the one that the caller has shown. It lies nowhere in memory.
use Rattle.atomic_table.proofs.Names.{◌≡◌, ℕ, List, [], ◌∷◌, refl, a_type, dcons, dnil, named, Val, vptr, vstruct, vcons, vnil, inst_fn, SProp, emp, Fml, ftrue, ‵, raw, ◌⊛◌, given, ◌$◌, ◌∵◌, !, qed, by, keep, drop, split, fjoin, learn, use0, no_more, and_then, returns, enter, alloc_all, pass_all, free_all, look_at, get, sets, agg, tables, yes, RattleType, owns, types_at, plain, nothing, param, bounded, alive, Stays, stay_dropped, walk_of, Goes-dropped, fact, fact_i, RefOf, shr_vals, shr_Tells}
use denote.Shadow.{makes_shadow}
use Rattle.atomic_table.proofs.Walks.{proved, leaves}
use Rattle.fluid_turn.specs.contracts.origin.Origin as origin
use Rattle.fluid_turn.specs.contracts.origin.origin_of.{ended, clauses}
use Rattle.fluid_turn.specs.contracts.origin.origin_of.Key.{name as #self}
use Rattle.fluid_turn.proofs.origin.origin_of.Statement.{statement}
use Rattle.fluid_turn.proofs.origin.origin_of.Code as code

pub origin_of_spec : {M : Type 1} → statement M
origin_of_spec 𝓤 𝓛 𝓜 𝓡 wired T U V _ _ _ g d _ =
    let H = 𝓛.H in let 𝓣 = tables 𝓤 H 𝓜 𝓡 𝓡.env in let R : RattleType = param 0 T in let Or : RattleType = origin.the_row (param 1 U) (param 2 V) in let En = ended T U V g d in
    let inst = bounded (a_type ∷ a_type ∷ a_type ∷ []) (T, (U, (V, tt))) (dcons d dnil) in let fn = inst_fn inst code.function in let value = RefOf (0 ∷ []) tt (plain (λ _. R)) (λ _. tt) in
    let hs : Stays En.signature.params En.kept = (stay_dropped value yes, tt) in let c = clauses T U V g d 𝓛 𝓜.mem 𝓡.returns in
    proved 𝓛 En hs c 𝓜 𝓡 (Goes-dropped 𝓛 4 value yes (λ κs x f. refl), tt) (#self inst) fn (code.unfolded 𝓤 H 𝓜 𝓡 wired (T, (U, (V, tt))) d)
    (λ κs. (shr_vals, tt)) (λ κs. (shr_Tells (named 0) κs.0 R, tt)) (λ κs qs bounds a gh are.
    let b : ℕ = a.0.ref_ptr.0 in let o : ℕ = a.0.ref_ptr.1 in let x : R.Denot = a.0.now in let v : Val = vstruct (vcons (vstruct vnil) vnil) in
    let y : (walk_of 𝓛 En hs c).Ghost = ((κs, qs, bounds, a, (vptr b o ∷ [], tt)), gh) in let Post : Val → SProp 𝓤 = (walk_of 𝓛 En hs c).post y in
    qed 𝓛 ((raw (alive 𝓛 En.signature κs qs) ⊛ ‵ (owns (types_at En.signature.params κs) a y.0.4)) ∷ raw (fact 𝓤 _) ∷ raw (fact 𝓤 _) ∷ raw (fact 𝓤 _) ∷ given ((l : List U.Denot) × g.stands x l) (‵ ftrue) ∷ []) ∵
    keep ! (4 ∷ 0 ∷ []) $ learn ! (λ asked. drop ! $ split ! $ keep ! (0 ∷ []) $
    let r : Or.Denot = record { marker = record {}; began = asked.0; fixed = g.fixed x } in let O : Fml = Or.own_val r (v ∷ []) in let Told : Type 0 = g.stands x r.began × (r.fixed ≡ g.fixed x) in
    enter ! 𝓣.C 𝓣.Λ fn (vptr b o ∷ []) Post $ alloc_all ! (λ l. pass_all ! refl ((tt, tt), tt) $
    sets ! (agg ! (no_more !)) refl (tt, tt) $ sets ! (agg ! (and_then ! (get ! refl) (no_more !))) refl (tt, (tt, tt)) $
    use0 𝓛 (raw (fact 𝓤 Told)) (fact_i 𝓤 Told (emp 𝓤) (asked.1, refl)) $
    use0 𝓛 (‵ O) (makes_shadow 𝓛 O ((λ vss. (tt, ((λ uss. (tt, tt)), tt))), tt) (((vstruct vnil ∷ [], tt), (refl, ((tt, (refl, tt)), tt))), tt)) $
    nothing ! $ nothing ! $ fjoin ! $
    returns ! (look_at ! 0 refl) $ free_all ! refl $ keep ! (3 ∷ 0 ∷ 1 ∷ 2 ∷ []) $ by ! (leaves 𝓛 En hs c y v r (tt, tt) (tt, tt)))))
