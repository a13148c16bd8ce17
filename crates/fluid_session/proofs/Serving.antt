-- Along a session: whose document its pass is one of.
use Rattle.std.proofs.Common.{◌≡◌, inl, inr, ℕ, Bool, true, false, List, [], ◌∷◌, Option, Some, None, refl, sym, ap, subst, ◌∙◌}
use Rattle.std.proofs.lemmas.Bool.{false≢true}
use Rattle.std.specs.Prelude.{is_some}
use Rattle.fluid_voice.specs.declared.actions.Act.{Act}
use Rattle.fluid_voice.specs.declared.actions.Act.TheVariants as act
use Rattle.fluid_voice.specs.States.{is_connected}
use Rattle.fluid_voice.specs.Heard.{acts_of}
use Rattle.fluid_ends.specs.declared.fault.TalkFault.{TalkFault}
use Rattle.fluid_ends.specs.declared.fault.TalkFault.TheVariants.{Door, Lane, Delta, Store, NoMemory}
use Rattle.fluid_talk.specs.Talking.{Knowing, Keyed, Talking, IsServed, MayBeServed, IsSameKey, IsSamePass}
use Rattle.fluid_talk.specs.Shelves.{IsReachedBy}
use Rattle.fluid_talk.specs.Doing.{Did}
use Rattle.fluid_talk.specs.Hearing.{KeyBehind, ReachesBy}
use Rattle.fluid_session.specs.Events.{Event, Stand, Collection, Round, IsCollection, IsRound, AreEvents, behind}
use Rattle.fluid_session.specs.Events.Event.{brings, hears}
use Rattle.fluid_session.specs.Outcome.{GoesOn}
use Rattle.fluid_session.proofs.Passes.{brings_on, hears_on}

-- ---- keys of one service

same_key : (k m : Keyed) → m ≡ k → IsSameKey k m
same_key k m is = record { limits = ap (λ (x : Keyed). x.limits) is; told = ap (λ (x : Keyed). x.told) is; number = ap (λ (x : Keyed). x.number) is }

same_then : (a b c : Keyed) → IsSameKey a b → IsSameKey b c → IsSameKey a c
same_then a b c first second = record { limits = second.limits ∙ first.limits; told = second.told ∙ first.told; number = second.number ∙ first.number }

key_behind : (acts : List Act) (done : List Did) (failed : Option TalkFault) (k m : Keyed) → KeyBehind acts done failed k m → IsSameKey k m
key_behind [] done failed k m h = h.same
key_behind (act.Say reply ∷ acts) done failed k m h = h.same
key_behind (act.Connect name write scopes detail moment ∷ acts) (d ∷ done) failed k m h = h.same
key_behind (act.Connect name write scopes detail moment ∷ acts) [] None k m h = h.same
key_behind (act.Connect name write scopes detail moment ∷ acts) [] (Some (Door fault)) k m h = h.same
key_behind (act.Connect name write scopes detail moment ∷ acts) [] (Some (Lane fault)) k m h = h.same
key_behind (act.Connect name write scopes detail moment ∷ acts) [] (Some (Delta fault)) k m h = h.same
key_behind (act.Connect name write scopes detail moment ∷ acts) [] (Some (Store fault)) k m h = h.same
key_behind (act.Connect name write scopes detail moment ∷ acts) [] (Some NoMemory) k m h = h.same
key_behind (act.Enter raw ∷ acts) done failed k m h = h.same
key_behind (act.Deltas from to ∷ acts) done failed k m h = h.same
key_behind (act.Summary asked ∷ acts) done failed k m h = h.same
key_behind (act.GetObject id ∷ acts) done failed k m h = h.same
key_behind (act.PutObject bytes ∷ acts) done failed k m h = h.same

-- ---- passes of its documents

served_by : (k m : Keyed) (p : Knowing) → IsSameKey k m → IsServed m p → IsServed k p
served_by k m p same is = record { limits = is.limits ∙ same.limits; told = λ told. is.told (same.told ∙ told) }

-- a pass of the same document, or none, is one too
pub served_on : (k : Keyed) (p q : Knowing) → IsSamePass p q → MayBeServed k p → MayBeServed k q
served_on k p q same is = λ named. let at = is (ap is_some (sym same.name) ∙ named) in record { limits = same.limits ∙ at.limits; told = λ told. same.told ∙ at.told told }

-- what holds of the connection along its session, for a key of its service
pub record IsOfService (k : Keyed) (t : Talking) : Type 0 where
  pub key : IsSameKey k t.key
  pub pass : MayBeServed k t.pass
  pub handed : is_connected t.voice ≡ false → MayBeServed k t.handed

reached_served : (k : Keyed) (name : List ℕ) (s t : Talking) → IsOfService k s → is_connected s.voice ≡ false → IsReachedBy name s.handed t.pass s.key t.key → (IsSameKey k t.key) × MayBeServed k t.pass
reached_served k name s t is apart (inl splits) = (
  same_then k s.key t.key is.key (same_key s.key t.key splits.key),
  λ named.
      let at : IsServed k s.handed = is.handed apart (ap is_some splits.named) in
      record { limits = splits.limits ∙ at.limits; told = λ told. splits.told ∙ at.told told },
)
reached_served k name s t is apart (inr opens) = (same_then k s.key t.key is.key opens.opens.same, λ named. served_by k s.key t.pass is.key opens.served)

-- ---- along its events

goes_served : (k : Keyed) (s t : Talking) (es : List Event) → IsOfService k s → GoesOn s t es → IsOfService k t
goes_served k s t es is on = record {
  key = same_then k s.key t.key is.key (same_key s.key t.key on.key);
  pass = served_on k s.pass t.pass on.goes.same is.pass;
  handed = λ apart. absurd (false≢true (sym apart ∙ on.still));
}

brings_served : (k : Keyed) (c : Collection) → IsCollection c → IsOfService k c.from → IsOfService k c.to
brings_served k c is of = by (is_connected c.from.voice) refl
  where
    by : (b : Bool) → is_connected c.from.voice ≡ b → IsOfService k c.to
    by true joined = goes_served k c.from c.to (brings c ∷ []) of (brings_on c joined is)
    by false apart = subst (IsOfService k) (sym (is.collects.apart apart).1) of

hears_served : (k : Keyed) (r : Round) → IsRound r → IsOfService k r.from → IsOfService k r.to
hears_served k r is of = by (is_connected r.from.voice) refl
  where
    reach : is_connected r.from.voice ≡ false → (reached : Option (List ℕ)) → ReachesBy reached r.from r.to r.before (acts_of r.from.voice r.text r.moment) r.done r.heard.fault → IsOfService k r.to
    reach apart None away = record {
      key = same_then k r.from.key r.to.key of.key (key_behind (acts_of r.from.voice r.text r.moment) r.done r.heard.fault r.from.key r.to.key away.key);
      pass = subst (MayBeServed k) (sym away.pass) of.pass;
      handed = λ still. subst (MayBeServed k) (sym away.handed) (of.handed apart);
    }
    reach apart (Some name) reaches =
        let both = reached_served k name r.from r.to of apart reaches.through in
        record { key = both.0; pass = both.1; handed = λ still. subst (MayBeServed k) (sym (reaches.handed still)) (of.handed apart) }

    by : (b : Bool) → is_connected r.from.voice ≡ b → IsOfService k r.to
    by true joined = goes_served k r.from r.to (hears r ∷ []) of (hears_on r joined is)
    by false apart = reach apart r.reached (is.apart apart).does

pub served_along : (k : Keyed) (es : List Event) (s t : Stand) → AreEvents s es t → IsOfService k s.talk → IsOfService k t.talk
served_along k [] s t same of = subst (λ (x : Stand). IsOfService k x.talk) (sym same) of
served_along k (brings c ∷ es) s t (begins, (is, more)) of = served_along k es (behind (brings c) s) t more (brings_served k c is (subst (IsOfService k) (sym begins) of))
served_along k (hears r ∷ es) s t (begins, (is, more)) of = served_along k es (behind (hears r) s) t more (hears_served k r is (subst (IsOfService k) (sym begins.0) of))

pub served_behind : (es : List Event) (s t : Stand) (u : Talking) → AreEvents s es t → IsSamePass t.talk.pass u.pass → MayBeServed s.talk.key s.talk.pass → MayBeServed s.talk.key s.talk.handed → MayBeServed s.talk.key u.pass
served_behind es s t u are same pass handed =
    let k = s.talk.key in
    served_on k t.talk.pass u.pass same (served_along k es s t are (record { key = record { limits = refl; told = refl; number = refl }; pass = pass; handed = λ apart. handed })).pass
