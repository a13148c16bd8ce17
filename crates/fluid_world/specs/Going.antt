-- A script goes on line by line.
use Rattle.std.specs.Prelude.{◌≡◌, ◌≤◌, ◌+◌, ℕ, Option, Some, None, refl}
use Rattle.std.proofs.Common.{sym, subst, ◌∙◌, arith}
use Rattle.fluid_store.specs.Storing.{Storing}
use Rattle.fluid_lanes.specs.Opened.{Opened}
use Rattle.fluid_desk.specs.declared.stop.Stop.{Stop}
use Rattle.fluid_desk.specs.declared.stop.Stop.TheVariants.{KeeperFault, StoreFault, BadStored, NoMemory}
use Rattle.fluid_desk.specs.declared.stop.StoredFault.TheVariants.{Lane, Delta, Object}
use Rattle.fluid_containers.specs.Ending.{EndsForLinking, StopsForLinking}
use Rattle.fluid_world.specs.Taking.{Scripting, RanTo, StoodTo, Goes, FollowsBy, Follows}

-- ---- an end has its cause since before

ends_since : (first : ℕ) (before mid now : Storing) (o : Opened) (stop : Stop) → before.faults ≤ mid.faults → EndsForLinking first mid now o stop → EndsForLinking first before now o stop
ends_since first before mid now o (KeeperFault note) le h = h
ends_since first before mid now o (StoreFault note) le h = record { before = omega (arith, le, h.before); after = h.after; rose = h.rose }
ends_since first before mid now o (BadStored (Lane fault)) le h = h
ends_since first before mid now o (BadStored (Delta number)) le h = h
ends_since first before mid now o (BadStored (Object fault)) le h = h
ends_since first before mid now o NoMemory le h = h

pub stops_since : (first steps : ℕ) (before mid now : Storing) (o : Opened) (stop : Stop) → before.faults ≤ mid.faults → StopsForLinking first steps mid now o stop → StopsForLinking first steps before now o stop
stops_since first steps before mid now o stop le h = record { shelves = h.shelves; few = h.few; ends = ends_since first before mid now o stop le h.ends }

ran_since : (first : ℕ) (before mid : Storing) (s : Scripting) (stop : Option Stop) → before.faults ≤ mid.faults → RanTo first mid s stop → RanTo first before s stop
ran_since first before mid s None le h = h
ran_since first before mid s (Some stop) le h = stops_since first (s.lines + 1) before mid s.store s.lanes stop le h

-- ---- following

goes_itself : (s : Scripting) → s.stop ≡ None → Goes s s
goes_itself s going = record {
  limits = refl;
  speaks = refl;
  good = refl;
  counts = omega arith;
  few = λ few. few;
  runs = λ first run. subst (RanTo first s.store s) (sym going) run;
  stood = λ may. subst (StoodTo s) (sym going) may;
}

itself_by : (s : Scripting) (o : Option Stop) → s.stop ≡ o → FollowsBy o s s
itself_by s None is = goes_itself s is
itself_by s (Some stop) is = refl

pub follows_itself : (s : Scripting) → Follows s s
follows_itself s = itself_by s s.stop refl

goes_on : (a b c : Scripting) → Goes a b → b.stop ≡ None → Goes b c → Goes a c
goes_on a b c first going second = record {
  limits = second.limits ∙ first.limits;
  speaks = second.speaks ∙ first.speaks;
  good = second.good ∙ first.good;
  counts = omega (arith, first.counts, second.counts);
  few = λ few. second.few (first.few few);
  runs = λ n run. ran_since n a.store b.store c c.stop first.counts (second.runs n (subst (RanTo n a.store b) going (first.runs n run)));
  stood = λ may. second.stood (subst (StoodTo b) going (first.stood may));
}

on_mid : (a b c : Scripting) (o : Option Stop) → b.stop ≡ o → Goes a b → FollowsBy o b c → Goes a c
on_mid a b c None is first second = goes_on a b c first is second
on_mid a b c (Some stop) is first second = subst (Goes a) (sym second) first

on_by : (a b c : Scripting) (o : Option Stop) → a.stop ≡ o → FollowsBy o a b → FollowsBy b.stop b c → FollowsBy o a c
on_by a b c None is first second = on_mid a b c b.stop refl first second
on_by a b c (Some stop) is first second =
    subst (λ s. FollowsBy s.stop s c → c ≡ a) (sym first) (λ h. subst (λ o. FollowsBy o a c → c ≡ a) (sym is) (λ same. same) h) second

pub follows_on : (a b c : Scripting) → Follows a b → Follows b c → Follows a c
follows_on a b c first second = on_by a b c a.stop refl first second
