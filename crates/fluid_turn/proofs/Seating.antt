-- What a seat's view says of it after a step.
use Rattle.std.proofs.Common.{◌≡◌, ℕ, ◌+◌, arith, Option, Some, None, List, [], ◌∷◌, ◌++◌, refl, sym, ap, ◌∙◌, subst}
use Rattle.atomic_table.specs.Table.{Me, rest}
use Rattle.fluid_turn.specs.declared.view.View.{View}
use Rattle.fluid_turn.specs.declared.view.Numbered.{Numbered}
use Rattle.fluid_turn.specs.declared.view.Stage.TheVariants.{Idle}
use Rattle.fluid_turn.specs.Entries.{IsPrefix, by_seat, of_nobody, entries, made_by}
use Rattle.fluid_turn.specs.Seats.{IsHistory}
use Rattle.fluid_turn.specs.Steps.{idle, adding, HasNews, HasBegun}
use Rattle.fluid_turn.specs.Seated.{IsSeated, IsHolding}
use Rattle.fluid_turn.proofs.Lists.{prefix_refl, entries-append, entries-of_nobody, made_by-append, made_by-own, made_by-of_nobody, signed-of_nobody, signed-push, signed-more}

module _ {T E : Type 0} (stands : T → List E → Type 0) (began : List E) where
  -- who notes in its turn has seen the whole list
  pub still_holding : (number ticket : ℕ) (m w : Me (Option T) (View E)) → IsHolding stands began number ticket m → HasNews stands began number m w → IsHolding stands began number ticket w
  still_holding number ticket m w h news = subst (IsHolding stands began number ticket) (sym news.1) record {
    holds = h.holds;
    below = h.below;
    slot = h.slot;
    own = news.2.2;
    history = news.3;
    saw = subst (IsPrefix news.0) (news.2.3 ticket h.holds) (prefix_refl news.0);
  }

  -- the turn had the list that has one entry more
  pub history-push : (l : List (Numbered E)) (number : ℕ) (e : E) (x : T) → stands x (entries l ++ e ∷ []) → IsHistory stands began l → IsHistory stands began (l ++ by_seat number e ∷ [])
  history-push l number e x st h = record {
    stood = (x, subst (stands x) (sym (entries-append l (by_seat number e ∷ []))) st);
    signed = (let seats = h.signed.0 + number + 1 in (seats, signed-push began seats l number e (omega arith) (signed-more began h.signed.0 seats l (omega arith) h.signed.1)));
  }

  -- who enters in its turn, having noted, has seen the whole list
  pub entering_holding : (number ticket : ℕ) (m w : Me (Option T) (View E)) (e : E) (x : T) → IsHolding stands began number ticket m → w ≡ (adding number (e ∷ []) m.0, m.1) → m.0.seen ≡ m.0.all → stands x (entries m.0.all ++ e ∷ [])
      → IsHolding stands began number ticket w
  entering_holding number ticket m w e x h is noted st =
      let l = m.0.all in
      let new = by_seat number e ∷ [] in
      subst (IsHolding stands began number ticket) (sym is) record {
        holds = h.holds;
        below = h.below;
        slot = h.slot;
        own = ap (λ k. k ++ e ∷ []) (h.own ∙ ap (made_by number) noted) ∙ sym (made_by-append number l new ∙ ap (λ k. made_by number l ++ k) (made_by-own number e));
        history = history-push l number e x st (subst (IsHistory stands began) noted h.history);
        saw = prefix_refl (l ++ new);
      }

  -- the first value stands for the list with which the turn begins
  pub begun_stands : (value : T) (m w : Me (Option T) (View E)) → HasBegun began m → w ≡ (m.0, (0, Some value) ∷ rest m.1) → stands value began
      → (x : T) × (w.1 ≡ (0, Some x) ∷ []) × stands x (entries w.0.all)
  begun_stands value m w begun is st =
      let all : w.0.all ≡ of_nobody began = ap (λ (m : Me (Option T) (View E)). m.0.all) is ∙ ap (λ (m : Me (Option T) (View E)). m.0.all) begun in (
        value,
        ap (λ (m : Me (Option T) (View E)). m.1) is ∙ ap (λ (m : Me (Option T) (View E)). (0, Some value) ∷ rest m.1) begun,
        subst (stands value) (sym (ap entries all ∙ entries-of_nobody began)) st,
      )

  -- the first seat
  pub begun_seated : (value : T) (number : ℕ) (m u w : Me (Option T) (View E)) → HasBegun began m → u ≡ (m.0, (0, Some value) ∷ rest m.1) → w ≡ (idle u.0, []) → stands value began → IsSeated stands began number w
  begun_seated value number m u w begun back is st =
      let P : Me (Option T) (View E) → Type 0 = IsSeated stands began number in
      let bare : IsSeated stands began number (record { seen = of_nobody began; mine = []; stage = Idle; all = []; told = [] }, []) = record {
        between = refl;
        empty = refl;
        own = sym (made_by-of_nobody number began);
        history = record { stood = (value, subst (stands value) (sym (entries-of_nobody began)) st); signed = (0, signed-of_nobody began 0) };
      } in
      let now : Me (Option T) (View E) → Me (Option T) (View E) = λ m. (idle m.0, []) in
      subst P (sym (is ∙ ap now back ∙ ap now begun)) bare

slot_of : {T : Type 0} → List (ℕ × Option T) → Option T
slot_of [] = None
slot_of (x ∷ xs) = x.1

-- what comes out of the slot is the value that was in it
pub taken_out : {T : Type 0} (c : List (ℕ × Option T)) (x v : T) (out : Option T) → c ≡ (0, Some x) ∷ [] → c ≡ (0, out) ∷ rest c → out ≡ Some v → x ≡ v
unfolding slot_of
taken_out c x v out has took is = let same : Some x ≡ out = ap slot_of (sym has ∙ took) in cc
