-- What messages make of a container, and what calls on a link leave, one after the other.
use Rattle.std.proofs.Common.{◌≡◌, ◌⊎◌, inl, inr, ℕ, suc, ◌+◌, ◌<◌, ◌≤◌, ◌^◌, List, [], ◌∷◌, ◌++◌, Some, None, Result, Ok, Err, refl, sym, ap, subst, ◌∙◌, arith, append_assoc, append-nil}
use Rattle.std.specs.Result.{OnOk, OnErr}
use Rattle.std.proofs.lemmas.List.Sums.{fold-append}
use Rattle.fluid_types.specs.Order.{AreNumberedFrom}
use Rattle.fluid_types.specs.Quorum.{Quorum, quorum_of}
use Rattle.fluid_types.specs.declared.messages.Message.{Message}
use Rattle.fluid_quorum.specs.After.{after}
use Rattle.fluid_loader.specs.Calls.{IsBehindPrefix}
use Rattle.fluid_loader.specs.Container.{AContainer, IsAbreast, taken_by, behind}
use Rattle.fluid_loader.specs.declared.following.Following.{Following}

-- ---- the quorum

after_number : (q : Quorum) (m : Message) → (after q m).number ≡ m.number
unfolding after
after_number q m = refl

pub none_yet : (quorum_of []).number ≡ 0
unfolding quorum_of
none_yet = refl

pub kept_behind : {A E : Type 0} (r : Result A E) (room number last : ℕ) (q : Quorum) (m : Message) (behind : Following)
    → OnOk r (behind ≡ record { quorum = after q m; owed = None }) → OnErr r (behind ≡ record { quorum = q; owed = Some m }) → m.number ≡ q.number + 1 → m.number ≡ number
    → 2 ^ 64 ≤ room + number → number < 2 ^ 53 → last < 2 ^ 53 → IsAbreast room number last behind
kept_behind (Ok a) room number last q m behind is other next own roomy fits last_fits =
    subst (IsAbreast room number last) (sym is)
    (record { owed_next = tt; abreast = after_number q m ∙ own; roomy = roomy; number_fits = fits; last_fits = last_fits })
kept_behind (Err e) room number last q m behind other is next own roomy fits last_fits =
    subst (IsAbreast room number last) (sym is)
    (record { owed_next = next; abreast = after_number q m ∙ own; roomy = roomy; number_fits = fits; last_fits = last_fits })

-- ---- one message more

abbrev pub Prefix : List ℕ → AContainer → AContainer → List Message → List Message → Type 0
Prefix client old now messages ahead = (prefix : List Message) × ((messages ≡ prefix ++ ahead) × (now ≡ behind client old prefix))

pub prefix_more : (client : List ℕ) (old now next : AContainer) (messages ahead rest : List Message) (m : Message) → ahead ≡ m ∷ rest → next ≡ taken_by client now m
    → Prefix client old now messages ahead → Prefix client old next messages rest
prefix_more client old now next messages ahead rest m left is f = (
  f.0 ++ m ∷ [],
  (
    f.1.0 ∙ ap (λ l. f.0 ++ l) left ∙ sym (append_assoc f.0 (m ∷ []) rest),
    is ∙ ap (λ c. taken_by client c m) f.1.1 ∙ sym (fold-append (taken_by client) old f.0 (m ∷ [])),
  ),
)

pub next_ones : (client : List ℕ) (now next : AContainer) (ahead rest : List Message) (m : Message) → ahead ≡ m ∷ rest → next ≡ taken_by client now m → AreNumberedFrom (now.number + 1) ahead
    → AreNumberedFrom (next.number + 1) rest
next_ones client now next ahead rest m left is h =
    let both = subst (AreNumberedFrom (now.number + 1)) left h in
    let number : next.number ≡ m.number = ap (λ c. c.number) is in
    let same : suc (now.number + 1) ≡ next.number + 1 = omega (arith, number, both.0) in
    subst (λ n. AreNumberedFrom n rest) same both.1

pub next_number : (client : List ℕ) (now next : AContainer) (ahead rest : List Message) (m : Message) → ahead ≡ m ∷ rest → next ≡ taken_by client now m → AreNumberedFrom (now.number + 1) ahead
    → next.number ≡ now.number + 1
next_number client now next ahead rest m left is h = ap (λ c. c.number) is ∙ (subst (AreNumberedFrom (now.number + 1)) left h).0

of_prefix : (client : List ℕ) (old now : AContainer) (messages ahead : List Message) → Prefix client old now messages ahead → IsBehindPrefix client old now messages
of_prefix client old now messages ahead f = record { prefix = f.0; ahead = ahead; splits = f.1.0; taken = f.1.1 }

on_err_always : {A E P : Type 0} (r : Result A E) → P → OnErr r P
on_err_always (Ok a) p = tt
on_err_always (Err e) p = p

pub stops_in_prefix : {A E : Type 0} (r : Result A E) (client : List ℕ) (old now next : AContainer) (messages ahead rest : List Message) (m : Message) → ahead ≡ m ∷ rest
    → (next ≡ now) ⊎ (next ≡ taken_by client now m) → Prefix client old now messages ahead → OnErr r (IsBehindPrefix client old next messages)
stops_in_prefix r client old now next messages ahead rest m left (inl same) f =
    on_err_always r (of_prefix client old next messages ahead (subst (λ c. Prefix client old c messages ahead) (sym same) f))
stops_in_prefix r client old now next messages ahead rest m left (inr is) f =
    on_err_always r (of_prefix client old next messages rest (prefix_more client old now next messages ahead rest m left is f))
