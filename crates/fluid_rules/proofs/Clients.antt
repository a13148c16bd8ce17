-- What is said of a client, part by part.
use Rattle.std.proofs.Common.{◌≡◌, ℕ, true, false, List, Option, Some, None, refl}
use Rattle.fluid_types.specs.declared.entries.Scopes.{Scopes}
use Rattle.fluid_types.specs.Ledger.{Ledger}
use Rattle.fluid_rules.specs.Past as said
use Rattle.fluid_rules.specs.Rules.{past_of, is_joined, last_number, is_nacked, reference, scopes, heard, client}

joined_at : (held : Option Scopes) (ledger : Ledger) (c : List ℕ) → said.membership (past_of ledger) c ≡ held → is_joined ledger c ≡ true →
    client ledger c ≡ Some (record { last = last_number ledger c; reference = reference ledger c; nacked = is_nacked ledger c; scopes = scopes ledger c; heard = heard ledger c })
unfolding client is_joined last_number is_nacked reference scopes heard said.client
joined_at None ledger c h joined = absurd (let no : false ≡ true = rw h at joined in cc)
joined_at (Some held) ledger c h joined = rw h refl

-- of a joined client it is its last number, its reference, whether it was refused as below the minimum, its scopes, and when it was heard of
pub client-joined : (ledger : Ledger) (c : List ℕ) → is_joined ledger c ≡ true →
    client ledger c ≡ Some (record { last = last_number ledger c; reference = reference ledger c; nacked = is_nacked ledger c; scopes = scopes ledger c; heard = heard ledger c })
client-joined ledger c joined = joined_at (said.membership (past_of ledger) c) ledger c refl joined

none_at : (held : Option Scopes) (ledger : Ledger) (c : List ℕ) → said.membership (past_of ledger) c ≡ held → is_joined ledger c ≡ false →
    client ledger c ≡ None
unfolding client is_joined said.client
none_at None ledger c h joined = rw h refl
none_at (Some held) ledger c h joined = absurd (let no : true ≡ false = rw h at joined in cc)

-- of another nothing
pub client-stranger : (ledger : Ledger) (c : List ℕ) → is_joined ledger c ≡ false → client ledger c ≡ None
client-stranger ledger c joined = none_at (said.membership (past_of ledger) c) ledger c refl joined
