-- Each step of a turn keeps its rule.
use Rattle.std.proofs.Common.{◌≡◌, ◌≢◌, inl, inr, ⊎_elim, ℕ, zero, suc, eqb, ◌+◌, ◌-◌, ◌<◌, ◌≤◌, Option, Some, None, List, [], ◌∷◌, ◌++◌, length, set, get_or, refl, sym, ap, ◌∙◌, subst, append-nil, arith, length-append, length-set, lt_of_not-le}
use Rattle.std.proofs.lemmas.List.{length-map}
use mathlib.Core.Option.{none, some, some-injective, some-ne-none}
use mathlib.Core.Logic.{dite}
use native.Mathlib.Decide.{ℕ_discrete, dec_le}
use lib.ListN.{get_elem?}
use prog.Atomic.{either}
use Rattle.atomic_table.specs.Table.{State, Me, Act, Valid, carried_after, step, keeps, takes, gives, Allows, Enters, Splits, Joins, stepped, opening}
use Rattle.atomic_table.proofs.Lists.{at_set, at_snoc, at_longer, set_here, set_else, set_again, exchanged}
use Rattle.fluid_turn.specs.declared.view.Numbered.{Numbered}
use Rattle.fluid_turn.specs.declared.view.View.{View}
use Rattle.fluid_turn.specs.declared.view.Stage.{Stage}
use Rattle.fluid_turn.specs.declared.view.Stage.TheVariants.{Opening, Idle, Waiting, Holding}
use Rattle.fluid_turn.specs.Entries.{IsPrefix, IsSigned, by_seat, by_nobody, of_nobody, entries, made_by}
use Rattle.fluid_turn.specs.Seats.{Stood, IsHistory}
use Rattle.fluid_turn.specs.Rule.{Homes, HasTicket, ticket_of, tickets, InHand, tickets_out, Knows, Fits, Placed, Kept}
use Rattle.fluid_turn.specs.Steps.{opening_view, newcomer, waiting, holding, idle, noting, adding, told_of, drew, looked, noticed, added, passed, rang, recalled, started, HasArrived}
use Rattle.fluid_turn.proofs.Lists.{at_here, at_below, at_prefix, prefix_refl, prefix-append, each_prefix-append, entries-append, entries-of_nobody, made_by-append, made_by-of_nobody, made_by-own, made_by-other, made_by-prefix, made_by-signed, signed-more, signed-push, signed-of_nobody}

some_is : {A : Type 0} {a b : A} → Some a ≡ Some b → a ≡ b
some_is e = cc

module _ {E : Type 0} where
  tickets_out-set : (vs : List (View E)) (i : ℕ) (v w : View E) → get_elem? vs i ≡ some v → tickets_out (set vs i w) + tickets v.stage ≡ tickets_out vs + tickets w.stage
  tickets_out-set [] i v w e = absurd (some-ne-none v (sym e))
  tickets_out-set (x ∷ xs) zero v w e =
      let same : tickets x.stage ≡ tickets v.stage = ap (λ (u : View E). tickets u.stage) (some-injective x v e) in
      let g : tickets w.stage + tickets_out xs + tickets v.stage ≡ tickets x.stage + tickets_out xs + tickets w.stage = omega arith in g
  tickets_out-set (x ∷ xs) (suc i) v w e =
      let r = tickets_out-set xs i v w e in
      let g : tickets x.stage + tickets_out (set xs i w) + tickets v.stage ≡ tickets x.stage + tickets_out xs + tickets w.stage = omega arith in g

  tickets_out-push : (vs : List (View E)) (w : View E) → tickets_out (vs ++ w ∷ []) ≡ tickets_out vs + tickets w.stage
  tickets_out-push [] w = let g : tickets w.stage + 0 ≡ 0 + tickets w.stage = omega arith in g
  tickets_out-push (x ∷ xs) w =
      let r = tickets_out-push xs w in
      let g : tickets x.stage + tickets_out (xs ++ w ∷ []) ≡ tickets x.stage + tickets_out xs + tickets w.stage = omega arith in g

module _ {T E : Type 0} (stands : T → List E → Type 0) (began : List E) where
  -- a ticket out is at least the served one, and one that was drawn
  drawn : (ticket serving : ℕ) (homes : Homes T) (log all : List (Numbered E)) (st : Stage) (n : ℕ) → Knows stands began ticket serving homes log all st → ticket_of st ≡ Some n → (serving ≤ n) × (n < ticket)
  drawn ticket serving homes log all Opening n k e = let same : 0 ≡ n = cc in (omega arith, omega arith)
  drawn ticket serving homes log all Idle n k e = absurd (cc)
  drawn ticket serving homes log all (Waiting m) n k e = let same : m ≡ n = cc in (omega arith, omega arith)
  drawn ticket serving homes log all (Holding m) n k e = let same : m ≡ n = cc in (omega arith, omega arith)

  -- who has the turn has the served ticket
  served : (ticket serving : ℕ) (homes : Homes T) (log all : List (Numbered E)) (st : Stage) → Knows stands began ticket serving homes log all st → InHand st → ticket_of st ≡ Some serving
  served ticket serving homes log all Opening k h = ap Some (sym k.0)
  served ticket serving homes log all Idle k h = absurd h
  served ticket serving homes log all (Waiting m) k h = absurd h
  served ticket serving homes log all (Holding m) k h = ap Some k.0

  -- who has the turn has the whole list
  whole : (ticket serving : ℕ) (homes : Homes T) (log all : List (Numbered E)) (st : Stage) (n : ℕ) → Knows stands began ticket serving homes log all st → st ≡ Holding n → all ≡ log
  whole ticket serving homes log all st n k e = (subst (Knows stands began ticket serving homes log all) e k).2

  -- more tickets are drawn
  knows_more : (ticket more serving : ℕ) (homes : Homes T) (log all : List (Numbered E)) (st : Stage) → ticket ≤ more → Knows stands began ticket serving homes log all st → Knows stands began more serving homes log all st
  knows_more ticket more serving homes log all Opening le k = (k.0, omega arith, k.2, k.3)
  knows_more ticket more serving homes log all Idle le k = tt
  knows_more ticket more serving homes log all (Waiting m) le k = (k.0, omega arith)
  knows_more ticket more serving homes log all (Holding m) le k = (k.0, omega arith, k.2)

  -- a seat without the turn knows nothing of the list or the slot
  knows_waiting : (ticket serving now : ℕ) (homes homes' : Homes T) (log log' all : List (Numbered E)) (st : Stage) → (InHand st → ⊥) → ((n : ℕ) → ticket_of st ≡ Some n → now ≤ n)
      → Knows stands began ticket serving homes log all st → Knows stands began ticket now homes' log' all st
  knows_waiting ticket serving now homes homes' log log' all Opening out late k = absurd (out tt)
  knows_waiting ticket serving now homes homes' log log' all Idle out late k = tt
  knows_waiting ticket serving now homes homes' log log' all (Waiting m) out late k = (late m refl, k.1)
  knows_waiting ticket serving now homes homes' log log' all (Holding m) out late k = absurd (out tt)

  fits_more : (ticket more serving : ℕ) (homes : Homes T) (log : List (Numbered E)) (by : ℕ) (v : View E) → ticket ≤ more → Fits stands began ticket serving homes log by v → Fits stands began more serving homes log by v
  fits_more ticket more serving homes log by v le f = record { saw = f.saw; told = f.told; own = f.own; own_seen = f.own_seen; knows = knows_more ticket more serving homes log v.all v.stage le f.knows }

  -- a list with more entries of others, a slot or a served ticket that changes is no matter to a seat without the turn
  fits_waiting : (ticket serving now : ℕ) (homes homes' : Homes T) (log more : List (Numbered E)) (by : ℕ) (v : View E) → (InHand v.stage → ⊥) → ((n : ℕ) → ticket_of v.stage ≡ Some n → now ≤ n) → made_by by more ≡ []
      → Fits stands began ticket serving homes log by v → Fits stands began ticket now homes' (log ++ more) by v
  fits_waiting ticket serving now homes homes' log more by v out late theirs f = record {
    saw = prefix-append v.seen log more f.saw;
    told = each_prefix-append v.told log more f.told;
    own = f.own ∙ sym (made_by-append by log more ∙ ap (λ l. made_by by log ++ l) theirs ∙ append-nil (made_by by log));
    own_seen = f.own_seen;
    knows = knows_waiting ticket serving now homes homes' log (log ++ more) v.all v.stage out late f.knows;
  }

  fits_out : (ticket serving now : ℕ) (homes homes' : Homes T) (log : List (Numbered E)) (by : ℕ) (v : View E) → (InHand v.stage → ⊥) → ((n : ℕ) → ticket_of v.stage ≡ Some n → now ≤ n)
      → Fits stands began ticket serving homes log by v → Fits stands began ticket now homes' log by v
  fits_out ticket serving now homes homes' log by v out late f = subst (λ l. Fits stands began ticket now homes' l by v) (append-nil log) (fits_waiting ticket serving now homes homes' log [] by v out late refl f)

  -- The rule after a step of the seat id, whose view becomes w
  rebuilt : (s : State (Option T) (View E)) (r : Kept stands began s) (id : ℕ) (v w : View E) → get_elem? s.views id ≡ some v
      → (words : List ℕ) (homes : Homes T) (ticket serving : ℕ) (log : List (Numbered E)) (bays : List ℕ)
      → words ≡ ticket ∷ serving ∷ length log ∷ bays
      → serving + tickets w.stage + r.ticket ≡ ticket + tickets v.stage + r.serving
      → Stood stands log
      → Placed stands began homes log (set s.views id w)
      → ((j : ℕ) (u : View E) → j ≢ id → get_elem? s.views j ≡ some u → Fits stands began ticket serving homes log j u)
      → Fits stands began ticket serving homes log id w
      → ((j : ℕ) (u : View E) (n : ℕ) → j ≢ id → get_elem? s.views j ≡ some u → ticket_of w.stage ≡ Some n → ticket_of u.stage ≡ Some n → ⊥)
      → IsSigned began (length s.views) log
      → Kept stands began record { words = words; homes = homes; views = set s.views id w }
  rebuilt s r id v w at words homes ticket serving log bays is balance stood placed others mine fresh signed = record {
    ticket = ticket;
    serving = serving;
    log = log;
    bays = bays;
    words = is;
    counted = (let t = tickets_out-set s.views id v w at in let c = r.counted in omega arith);
    apart = two;
    stood = stood;
    placed = placed;
    fits = λ j u e. ⊎_elim
        (λ (x : (j ≡ id) × (w ≡ u)). subst (λ (y : ℕ × View E). Fits stands began ticket serving homes log y.0 y.1) (λ i. (sym x.0 i, x.1 i)) mine)
        (λ (x : (j ≢ id) × (get_elem? s.views j ≡ some u)). others j u x.0 x.1)
        (at_set s.views id j w u e);
    signed = subst (λ n. IsSigned began n log) (sym (length-set s.views id w)) signed;
  }
    where
      two : (i j n : ℕ) → HasTicket (set s.views id w) i n → HasTicket (set s.views id w) j n → i ≡ j
      two i j n ha hb =
          let a = ha.0 in
          let b = hb.0 in
          ⊎_elim
          (λ (x : (i ≡ id) × (w ≡ a)). ⊎_elim
          (λ (y : (j ≡ id) × (w ≡ b)). x.0 ∙ sym y.0)
          (λ (y : (j ≢ id) × (get_elem? s.views j ≡ some b)). absurd (fresh j b n y.0 y.1 (ap (λ (u : View E). ticket_of u.stage) x.1 ∙ ha.2) hb.2))
          (at_set s.views id j w b hb.1))
          (λ (x : (i ≢ id) × (get_elem? s.views i ≡ some a)). ⊎_elim
          (λ (y : (j ≡ id) × (w ≡ b)). absurd (fresh i a n x.0 x.1 (ap (λ (u : View E). ticket_of u.stage) y.1 ∙ hb.2) ha.2))
          (λ (y : (j ≢ id) × (get_elem? s.views j ≡ some b)). r.apart i j n (a, x.1, ha.2) (b, y.1, hb.2))
          (at_set s.views id j w b hb.1))
          (at_set s.views id i w a ha.1)

  -- while the seat id has the served ticket, no other seat has the turn
  alone : (s : State (Option T) (View E)) (r : Kept stands began s) (id : ℕ) (v : View E) → get_elem? s.views id ≡ some v → ticket_of v.stage ≡ Some r.serving
      → (j : ℕ) (u : View E) → j ≢ id → get_elem? s.views j ≡ some u → InHand u.stage → ⊥
  alone s r id v at mine j u ne e h = ne (r.apart j id r.serving (u, e, served r.ticket r.serving s.homes r.log u.all u.stage (r.fits j u e).knows h) (v, at, mine))

  -- the ticket of another seat is another
  same_ticket : (s : State (Option T) (View E)) (r : Kept stands began s) (id : ℕ) (v w : View E) → get_elem? s.views id ≡ some v → ticket_of w.stage ≡ ticket_of v.stage
      → (j : ℕ) (u : View E) (n : ℕ) → j ≢ id → get_elem? s.views j ≡ some u → ticket_of w.stage ≡ Some n → ticket_of u.stage ≡ Some n → ⊥
  same_ticket s r id v w at same j u n ne e tw tu = ne (r.apart j id n (u, e, tu) (v, at, sym same ∙ tw))

  -- the value is where it was
  still_placed : (s : State (Option T) (View E)) (log : List (Numbered E)) (id : ℕ) (v w : View E) → get_elem? s.views id ≡ some v → (InHand v.stage → InHand w.stage)
      → Placed stands began s.homes log s.views → Placed stands began s.homes log (set s.views id w)
  still_placed s log id v w at hand p = ⊎_elim
      (λ h. inl h)
      (λ (h : (by : ℕ) × (u : View E) × (get_elem? s.views by ≡ some u) × InHand u.stage). dite (ℕ_discrete h.0 id)
      (λ same. inr (id, w, at_here s.views id v w at, hand (subst (λ (u : View E). InHand u.stage) (some-injective _ _ (sym h.2 ∙ ap (get_elem? s.views) same ∙ at)) h.3)))
      (λ ne. inr (h.0, h.1, set_else s.views id h.0 w ne ∙ h.2, h.3)))
      p

  -- a step of the seat id that changes no word, no slot and no ticket
  unchanged : (s : State (Option T) (View E)) (r : Kept stands began s) (id : ℕ) (v w : View E) → get_elem? s.views id ≡ some v → (words bays : List ℕ) → words ≡ r.ticket ∷ r.serving ∷ length r.log ∷ bays
      → w.stage ≡ v.stage → Fits stands began r.ticket r.serving s.homes r.log id w → Kept stands began record { words = words; homes = s.homes; views = set s.views id w }
  unchanged s r id v w at words bays is same mine = rebuilt s r id v w at words s.homes r.ticket r.serving r.log bays is
      (let t : tickets w.stage ≡ tickets v.stage = ap tickets same in omega arith)
      r.stood
      (still_placed s r.log id v w at (subst InHand (sym same)) r.placed)
      (λ j u ne e. r.fits j u e)
      mine
      (same_ticket s r id v w at (ap ticket_of same))
      r.signed

  pub draws : (slots id old new : ℕ) (m : Me (Option T) (View E)) → m.0.stage ≡ Idle → new ≡ old + 1
      → Allows (Kept stands began) slots id m 0 (λ n. either (eqb n old) new n) (drew (step slots 0 old new none) m)
  draws slots id old new m out next s r size at _ = exchanged (get_or s.words 0 0) old new After hit miss
    where
      found : get_or s.words 0 0 ≡ r.ticket
      found = ap (λ l. get_or l 0 0) r.words

      After : ℕ → Type 0
      After k = (w : View E) × (a : Act (Option T)) × Valid s.homes m.1 a × Kept stands began (stepped s 0 k id m.1 w a) × drew (step slots 0 old new none) m (get_or s.words 0 0) (w, carried_after m.1 a)

      hit : get_or s.words 0 0 ≡ old → After new
      hit e =
          let n = get_or s.words 0 0 in
          let w = waiting n m.0 in
          let f = r.fits id m.0 at in
          let no_ticket : tickets m.0.stage ≡ 0 = ap tickets out in
          let c = r.counted in
          let drawn_last : n ≡ r.ticket = found in
          let is : set s.words 0 new ≡ (r.ticket + 1) ∷ r.serving ∷ length r.log ∷ r.bays = ap (λ l. set l 0 new) r.words ∙ ap (λ k. k ∷ r.serving ∷ length r.log ∷ r.bays) (omega arith) in (
            w,
            keeps,
            tt,
            rebuilt s r id m.0 w at (set s.words 0 new) s.homes (r.ticket + 1) r.serving r.log r.bays is
                (omega arith)
                r.stood
                (still_placed s r.log id m.0 w at (λ h. absurd (subst InHand out h)) r.placed)
                (λ j u ne e. fits_more r.ticket (r.ticket + 1) r.serving s.homes r.log j u (omega arith) (r.fits j u e))
                record { saw = f.saw; told = f.told; own = f.own; own_seen = f.own_seen; knows = (omega arith, omega arith) }
                (λ j u k ne e tw tu.
                let d = drawn r.ticket r.serving s.homes r.log u.all u.stage k (r.fits j u e).knows tu in
                let same : n ≡ k = cc in
                absurd (omega arith))
                r.signed,
            ((λ _. refl), (λ ne. absurd (ne e))),
          )

      miss : get_or s.words 0 0 ≢ old → After (get_or s.words 0 0)
      miss ne = (m.0, keeps, tt, unchanged s r id m.0 m.0 at _ r.bays (ap (λ l. set l 0 (get_or l 0 0)) r.words) refl (r.fits id m.0 at), ((λ e. absurd (ne e)), (λ _. refl)))

  pub looks : (tells : T → List E → Type 0) → ((x : T) (l : List E) → stands x l → tells x l) → (slots id t : ℕ) (m : Me (Option T) (View E)) → m.0.stage ≡ Waiting t → m.1 ≡ []
      → Allows (Kept stands began) slots id m 1 (λ n. n) (looked tells (step slots 1 0 0 none) m)
  looks tells weaken slots id t m stage empty s r size at _ = dite (ℕ_discrete (get_or s.words 1 0) t) hit miss
    where
      n : ℕ
      n = get_or s.words 1 0

      is : set s.words 1 (get_or s.words 1 0) ≡ r.ticket ∷ r.serving ∷ length r.log ∷ r.bays
      is = ap (λ l. set l 1 (get_or l 1 0)) r.words

      Found : Type 0
      Found = (w : View E) × (a : Act (Option T)) × Valid s.homes m.1 a × Kept stands began (stepped s 1 (get_or s.words 1 0) id m.1 w a) × looked tells (step slots 1 0 0 none) m (get_or s.words 1 0) (w, carried_after m.1 a)

      hit : get_or s.words 1 0 ≡ t → Found
      hit e = ⊎_elim home away r.placed
        where
          mine : ticket_of m.0.stage ≡ Some r.serving
          mine = ap ticket_of stage ∙ ap Some (sym e ∙ ap (λ l. get_or l 1 0) r.words)

          home : (x : T) × (get_elem? s.homes 0 ≡ some (some (Some x))) × stands x (entries r.log) → Found
          home h =
              let f = r.fits id m.0 at in
              let w = holding n r.log m.0 in
              let d = drawn r.ticket r.serving s.homes r.log m.0.all m.0.stage r.serving f.knows mine in
              let serves : n ≡ r.serving = ap (λ l. get_or l 1 0) r.words in
              let one : tickets m.0.stage ≡ 1 = ap tickets stage in (
                w,
                takes 0 (Some h.0),
                h.1,
                rebuilt s r id m.0 w at (set s.words 1 n) (set s.homes 0 none) r.ticket r.serving r.log r.bays is
                    (omega arith)
                    r.stood
                    (inr (id, w, at_here s.views id m.0 w at, tt))
                    (λ j u ne e. fits_out r.ticket r.serving r.serving s.homes (set s.homes 0 none) r.log j u (alone s r id m.0 at mine j u ne e) (λ k tu. (drawn r.ticket r.serving s.homes r.log u.all u.stage k (r.fits j u e).knows tu).0) (r.fits j u e))
                    record { saw = f.saw; told = f.told; own = f.own; own_seen = f.own_seen; knows = (serves, d.1, refl) }
                    (same_ticket s r id m.0 w at (ap Some serves ∙ sym mine))
                    r.signed,
                (
                  (λ _. (h.0, r.log, (λ i. (holding n r.log m.0, (0, Some h.0) ∷ empty i)), weaken h.0 (entries r.log) h.2, f.saw)),
                  (λ k is ne. let same : Waiting k ≡ Waiting t = sym is ∙ stage in let kt : k ≡ t = cc in absurd (ne (e ∙ sym kt))),
                ),
              )

          away : (j : ℕ) × (u : View E) × (get_elem? s.views j ≡ some u) × InHand u.stage → Found
          away h = absurd (dite (ℕ_discrete h.0 id)
              (λ same. subst InHand stage (subst (λ (u : View E). InHand u.stage) (some-injective _ _ (sym h.2 ∙ ap (get_elem? s.views) same ∙ at)) h.3))
              (λ ne. alone s r id m.0 at mine h.0 h.1 ne h.2 h.3))

      miss : get_or s.words 1 0 ≢ t → Found
      miss ne = (
        m.0,
        keeps,
        tt,
        unchanged s r id m.0 m.0 at _ r.bays is refl (r.fits id m.0 at),
        ((λ is. let same : Waiting n ≡ Waiting t = sym is ∙ stage in absurd (ne (cc))), (λ _ _ _. refl)),
      )

  -- the turn's list is one that it had
  had : (tells : T → List E → Type 0) → ((x : T) (l : List E) → stands x l → tells x l) → (s : State (Option T) (View E)) (r : Kept stands began s) → IsHistory tells began r.log
  had tells weaken s r = record { stood = (r.stood.0, weaken r.stood.0 (entries r.log) r.stood.1); signed = (length s.views, r.signed) }

  pub notes : (tells : T → List E → Type 0) → ((x : T) (l : List E) → stands x l → tells x l) → (slots id number : ℕ) → number ≡ id → (origin : List E) → origin ≡ began → (m : Me (Option T) (View E))
      → Allows (Kept stands began) slots id m 2 (λ n. n) (noticed tells origin number (step slots 2 0 0 none) m)
  notes tells weaken slots id number is_own origin is_began m s r size at _ =
      let f = r.fits id m.0 at in (
        noting r.log m.0,
        keeps,
        tt,
        unchanged s r id m.0 (noting r.log m.0) at _ r.bays (ap (λ l. set l 2 (get_or l 2 0)) r.words) refl
            record { saw = prefix_refl r.log; told = tt; own = f.own; own_seen = f.own; knows = f.knows },
        (
          r.log,
          refl,
          (f.saw, f.told, subst (λ k. m.0.mine ≡ made_by k r.log) (sym is_own) f.own, (λ n e. sym (whole r.ticket r.serving s.homes r.log m.0.all m.0.stage n f.knows e))),
          subst (λ o. IsHistory tells o r.log) (sym is_began) (had tells weaken s r),
        ),
      )

  -- what a bay has is no matter
  pub rings : (slots id bay : ℕ) (f : ℕ → ℕ) (first second : ℕ) → 2 < bay → (m : Me (Option T) (View E)) → Allows (Kept stands began) slots id m bay f (rang (step slots bay first second none) m)
  rings slots id bay f first second behind m = subst (λ i. Allows (Kept stands began) slots id m i f (rang (step slots i first second none) m)) (sym is) rung
    where
      k : ℕ
      k = bay - 3

      is : bay ≡ suc (suc (suc k))
      is = omega arith

      rung : Allows (Kept stands began) slots id m (suc (suc (suc k))) f (rang (step slots (suc (suc (suc k))) first second none) m)
      rung s r size at _ =
          let new = f (get_or s.words (suc (suc (suc k))) 0) in (
            m.0,
            keeps,
            tt,
            unchanged s r id m.0 m.0 at _ (set r.bays k new) (ap (λ l. set l (suc (suc (suc k))) new) r.words) refl (r.fits id m.0 at),
            refl,
          )

  pub recalls : (slots id number : ℕ) → number ≡ id → (m : Me (Option T) (View E)) → Allows (Kept stands began) slots id m 0 (λ n. n) (recalled number (step slots 0 0 0 none) m)
  recalls slots id number is_own m s r size at _ =
      let f = r.fits id m.0 at in (
        m.0,
        keeps,
        tt,
        unchanged s r id m.0 m.0 at _ r.bays (ap (λ l. set l 0 (get_or l 0 0)) r.words) refl f,
        (refl, subst (λ k. m.0.mine ≡ made_by k m.0.seen) (sym is_own) f.own_seen),
      )

  adds_own : (slots id t count : ℕ) (e : E) (m : Me (Option T) (View E)) → m.0.stage ≡ Holding t → count ≡ length m.0.all + 1 → (x : T) → stands x (entries m.0.all ++ e ∷ [])
      → Allows (Kept stands began) slots id m 2 (λ _. count) (λ _. added id (e ∷ []) (step slots 2 count 0 none) m count)
  adds_own slots id t count e m stage one x st s r size at _ =
      let f = r.fits id m.0 at in
      let new = by_seat id e ∷ [] in
      let w = adding id (e ∷ []) m.0 in
      let k : Knows stands began r.ticket r.serving s.homes r.log m.0.all (Holding t) = subst (Knows stands began r.ticket r.serving s.homes r.log m.0.all) stage f.knows in
      let mine : ticket_of m.0.stage ≡ Some r.serving = ap ticket_of stage ∙ ap Some k.0 in
      let long : length m.0.all ≡ length r.log = ap length k.2 in (
        w,
        keeps,
        tt,
        rebuilt s r id m.0 w at (set s.words 2 count) s.homes r.ticket r.serving (r.log ++ new) r.bays
            (ap (λ l. set l 2 count) r.words ∙ ap (λ n. r.ticket ∷ r.serving ∷ n ∷ r.bays) (omega (arith, length-append r.log new)))
            (omega arith)
            (x, subst (stands x) (ap (λ l. entries l ++ e ∷ []) k.2 ∙ sym (entries-append r.log new)) st)
            (inr (id, w, at_here s.views id m.0 w at, subst InHand (sym stage) tt))
            (λ j u ne there. fits_waiting r.ticket r.serving r.serving s.homes s.homes r.log new j u (alone s r id m.0 at mine j u ne there) (λ n tu. (drawn r.ticket r.serving s.homes r.log u.all u.stage n (r.fits j u there).knows tu).0) (made_by-other j id e ne) (r.fits j u there))
            record {
              saw = subst (λ l. IsPrefix (l ++ new) (r.log ++ new)) (sym k.2) (prefix_refl (r.log ++ new));
              told = each_prefix-append m.0.told r.log new f.told;
              own = ap (λ l. l ++ e ∷ []) f.own ∙ sym (made_by-append id r.log new ∙ ap (λ l. made_by id r.log ++ l) (made_by-own id e));
              own_seen = ap (λ l. l ++ e ∷ []) (f.own ∙ ap (made_by id) (sym k.2)) ∙ sym (made_by-append id m.0.all new ∙ ap (λ l. made_by id m.0.all ++ l) (made_by-own id e));
              knows = subst (Knows stands began r.ticket r.serving s.homes (r.log ++ new) (m.0.all ++ new)) (sym stage) (k.0, k.1, ap (λ l. l ++ new) k.2);
            }
            (same_ticket s r id m.0 w at refl)
            (signed-push began (length s.views) r.log id e (at_below s.views id m.0 at) r.signed),
        refl,
      )

  pub adds : (slots id number t count : ℕ) (es : List E) (e : E) (m : Me (Option T) (View E)) → number ≡ id → es ≡ e ∷ [] → m.0.stage ≡ Holding t → count ≡ length m.0.all + 1 → (x : T) × stands x (entries m.0.all ++ e ∷ [])
      → Allows (Kept stands began) slots id m 2 (λ _. count) (λ _. added number es (step slots 2 count 0 none) m count)
  adds slots id number t count es e m is_own is_one stage one st =
      subst (λ (p : ℕ × List E). Allows (Kept stands began) slots id m 2 (λ _. count) (λ _. added p.0 p.1 (step slots 2 count 0 none) m count)) (λ i. (sym is_own i, sym is_one i)) (adds_own slots id t count e m stage one st.0 st.1)

  passes_in : (slots id t next : ℕ) (v : View E) (x : T) → next ≡ t + 1 → v.stage ≡ Holding t → 0 < slots → stands x (entries v.all)
      → Allows (Kept stands began) slots id (v, (0, Some x) ∷ []) 1 (λ _. next) (λ _. passed (step slots 1 next 0 none) (v, (0, Some x) ∷ []) next)
  passes_in slots id t next v x after stage some_slot st s r size at _ =
      let f = r.fits id v at in
      let w = idle v in
      let k : Knows stands began r.ticket r.serving s.homes r.log v.all (Holding t) = subst (Knows stands began r.ticket r.serving s.homes r.log v.all) stage f.knows in
      let mine : ticket_of v.stage ≡ Some r.serving = ap ticket_of stage ∙ ap Some k.0 in
      let homes = set s.homes 0 (some (Some x)) in
      let one : tickets v.stage ≡ 1 = ap tickets stage in (
        w,
        gives,
        tt,
        rebuilt s r id v w at (set s.words 1 next) homes r.ticket next r.log r.bays
            (ap (λ l. set l 1 next) r.words)
            (omega arith)
            r.stood
            (inl (x, set_here s.homes 0 (some (Some x)) (omega arith), subst (λ l. stands x (entries l)) k.2 st))
            (λ j u ne e. fits_out r.ticket r.serving next s.homes homes r.log j u (alone s r id v at mine j u ne e)
            (λ n tu.
            let d = drawn r.ticket r.serving s.homes r.log u.all u.stage n (r.fits j u e).knows tu in
            let other : n ≢ r.serving = λ same. ne (r.apart j id r.serving (u, e, tu ∙ ap Some same) (v, at, mine)) in
            omega arith)
            (r.fits j u e))
            record { saw = f.saw; told = f.told; own = f.own; own_seen = f.own_seen; knows = tt }
            (λ j u n ne e tw tu. absurd (cc))
            r.signed,
        refl,
      )

  pub passes : (slots id t next : ℕ) (m : Me (Option T) (View E)) → next ≡ t + 1 → m.0.stage ≡ Holding t → 0 < slots → (x : T) × (m.1 ≡ (0, Some x) ∷ []) × stands x (entries m.0.all)
      → Allows (Kept stands began) slots id m 1 (λ _. next) (λ _. passed (step slots 1 next 0 none) m next)
  passes slots id t next m after stage some_slot st =
      subst (λ (c : List (ℕ × Option T)). Allows (Kept stands began) slots id (m.0, c) 1 (λ _. next) (λ _. passed (step slots 1 next 0 none) (m.0, c) next)) (sym st.1) (passes_in slots id t next m.0 st.0 after stage some_slot st.2)

  -- a new seat that has seen how the list began
  joined : (s : State (Option T) (View E)) (r : Kept stands began s) (l : List (Numbered E)) → IsPrefix l r.log → Kept stands began record { words = s.words; homes = s.homes; views = s.views ++ newcomer l ∷ [] }
  joined s r l p = record {
    ticket = r.ticket;
    serving = r.serving;
    log = r.log;
    bays = r.bays;
    words = r.words;
    counted = (let t = tickets_out-push s.views (newcomer l) in let c = r.counted in omega arith);
    apart = λ i j n ha hb. ⊎_elim
        (λ vi. ⊎_elim
        (λ uj. r.apart i j n (ha.0, vi, ha.2) (hb.0, uj, hb.2))
        (λ (is : newcomer l ≡ hb.0). no_ticket hb.0 n is hb.2)
        (at_snoc s.views (newcomer l) hb.0 j hb.1))
        (λ (is : newcomer l ≡ ha.0). no_ticket ha.0 n is ha.2)
        (at_snoc s.views (newcomer l) ha.0 i ha.1);
    stood = r.stood;
    placed = ⊎_elim (λ h. inl h) (λ (h : (by : ℕ) × (u : View E) × (get_elem? s.views by ≡ some u) × InHand u.stage). inr (h.0, h.1, at_longer s.views (newcomer l ∷ []) h.0 h.1 h.2, h.3)) r.placed;
    fits = new_fits;
    signed = signed-more began (length s.views) (length (s.views ++ newcomer l ∷ [])) r.log (omega (arith, length-append s.views (newcomer l ∷ []))) r.signed;
  }
    where
      no_ticket : {A : Type 0} (u : View E) (n : ℕ) → newcomer l ≡ u → ticket_of u.stage ≡ Some n → A
      no_ticket u n is t = let e : None ≡ Some n = ap (λ (u : View E). ticket_of u.stage) is ∙ t in absurd (cc)

      new_fits : (by : ℕ) (v : View E) → get_elem? (s.views ++ newcomer l ∷ []) by ≡ some v → Fits stands began r.ticket r.serving s.homes r.log by v
      new_fits by v e = dite (dec_le (length s.views) by)
          (λ behind.
          let none_made = made_by-signed began (length s.views) by r.log behind r.signed in
          ⊎_elim
          (λ there. r.fits by v there)
          (λ (is : newcomer l ≡ v). subst (Fits stands began r.ticket r.serving s.homes r.log by) is
          record { saw = p; told = tt; own = sym none_made; own_seen = sym (made_by-prefix by l r.log p none_made); knows = tt })
          (at_snoc s.views (newcomer l) v by e))
          (λ prefix. r.fits by v (at_prefix s.views (newcomer l ∷ []) by v (lt_of_not-le prefix) e))

  pub cuts : (id : ℕ) (v : View E) → Splits (Kept stands began) id v v (newcomer v.seen)
  cuts id v s r at = subst (λ (vs : List (View E)). Kept stands began record { words = s.words; homes = s.homes; views = vs ++ newcomer v.seen ∷ [] }) (sym (set_again s.views id v at)) (joined s r v.seen (r.fits id v at).saw)

  pub arrives : (tells : T → List E → Type 0) → ((x : T) (l : List E) → stands x l → tells x l) → (origin : List E) → origin ≡ began → (slots : ℕ) → Enters (Kept stands began) slots 2 (λ n w. HasArrived tells origin (w, []))
  arrives tells weaken origin is_began slots s r size _ = (newcomer r.log, joined s r r.log (prefix_refl r.log), (r.log, refl, subst (λ o. IsHistory tells o r.log) (sym is_began) (had tells weaken s r)))

  pub merges : (id : ℕ) (v : View E) (other : ℕ) (w : View E) → w.stage ≡ Idle → w.mine ≡ [] → Joins (Kept stands began) id v other w (told_of v w) (newcomer [])
  merges id v other w out bare s r at apart there =
      let f = r.fits id v at in
      let before = sym (set_else s.views id other (told_of v w) apart) ∙ there in
      let s1 : State (Option T) (View E) = record { words = s.words; homes = s.homes; views = set s.views id (told_of v w) } in
      let r1 : Kept stands began s1 = unchanged s r id v (told_of v w) at s.words r.bays r.words refl
      record { saw = f.saw; told = ((r.fits other w before).saw, f.told); own = f.own; own_seen = f.own_seen; knows = f.knows } in
      unchanged s1 r1 other w (newcomer []) there s.words r1.bays r1.words (sym out)
      record { saw = (r1.log, refl); told = tt; own = sym bare ∙ (r1.fits other w there).own; own_seen = refl; knows = tt }

  pub begins : (slots id : ℕ) (origin : List E) → origin ≡ began → (m : Me (Option T) (View E)) → m ≡ (opening_view, [])
      → Allows (Kept stands began) slots id m 2 (λ n. n) (started origin (step slots 2 0 0 none) m)
  begins slots id origin is_began m is =
      subst (λ (p : List E × Me (Option T) (View E)). Allows (Kept stands began) slots id p.1 2 (λ n. n) (started p.0 (step slots 2 0 0 none) p.1)) (λ i. (sym is_began i, sym is i)) step_of
    where
      step_of : Allows (Kept stands began) slots id (opening_view, []) 2 (λ n. n) (started began (step slots 2 0 0 none) (opening_view, []))
      step_of s r size at _ =
          let f = r.fits id opening_view at in
          let w : View E = record { seen = of_nobody began; mine = []; stage = Holding 0; all = of_nobody began; told = [] } in
          let mine : Some 0 ≡ Some r.serving = ap Some (sym f.knows.0) in
          let whole_list : r.log ≡ of_nobody began = f.knows.3 in (
            w,
            takes 0 None,
            f.knows.2,
            rebuilt s r id opening_view w at _ (set s.homes 0 none) r.ticket r.serving r.log r.bays (ap (λ l. set l 2 (get_or l 2 0)) r.words)
                (omega arith)
                r.stood
                (inr (id, w, at_here s.views id opening_view w at, tt))
                (λ j u ne e. fits_out r.ticket r.serving r.serving s.homes (set s.homes 0 none) r.log j u (alone s r id opening_view at mine j u ne e) (λ k tu. (drawn r.ticket r.serving s.homes r.log u.all u.stage k (r.fits j u e).knows tu).0) (r.fits j u e))
                record {
                  saw = subst (IsPrefix (of_nobody began)) (sym whole_list) (prefix_refl (of_nobody began));
                  told = tt;
                  own = f.own;
                  own_seen = sym (made_by-of_nobody id began);
                  knows = (sym f.knows.0, (let a = f.knows.0 in let b = f.knows.1 in omega arith), sym whole_list);
                }
                (same_ticket s r id opening_view w at refl)
                r.signed,
            refl,
          )

  -- the table of a turn as it is made
  pub opens : (count : ℕ) (bays : List ℕ) (x : T) → stands x began → count ≡ length began → Kept stands began (opening (1 ∷ 0 ∷ count ∷ bays) (None ∷ []) opening_view)
  opens count bays x st long = record {
    ticket = 1;
    serving = 0;
    log = of_nobody began;
    bays = bays;
    words = ap (λ n. 1 ∷ 0 ∷ n ∷ bays) (long ∙ sym (length-map began by_nobody));
    counted = refl;
    apart = only;
    stood = (x, subst (stands x) (sym (entries-of_nobody began)) st);
    placed = inr (0, opening_view, refl, tt);
    fits = first_fits;
    signed = signed-of_nobody began 1;
  }
    where
      only : (i j n : ℕ) → HasTicket {E = E} (opening_view ∷ []) i n → HasTicket {E = E} (opening_view ∷ []) j n → i ≡ j
      only zero zero n ha hb = refl
      only zero (suc j) n ha hb = absurd (some-ne-none hb.0 (sym hb.1))
      only (suc i) j n ha hb = absurd (some-ne-none ha.0 (sym ha.1))

      first_fits : (by : ℕ) (v : View E) → get_elem? (opening_view ∷ []) by ≡ some v → Fits stands began 1 0 (some None ∷ []) (of_nobody began) by v
      first_fits zero v e = subst (Fits stands began 1 0 (some None ∷ []) (of_nobody began) 0) (some-injective _ _ e)
          record { saw = (of_nobody began, refl); told = tt; own = sym (made_by-of_nobody 0 began); own_seen = refl; knows = (refl, omega arith, refl, refl) }
      first_fits (suc by) v e = absurd (some-ne-none v (sym e))
