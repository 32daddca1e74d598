-- Net counts as words: 256 is none, each arrival moves the word by one, and 127 to 385 keeps within -129 to 129.
use Rattle.std.specs.Prelude.{ℕ, ◌≡◌, refl, Bool, true, false, ◌&&◌, leb, ltb, eqb, ◌≤◌, ◌<◌, pos}
use Rattle.std.proofs.Common.{arith}
use Rattle.std.proofs.lemmas.Bool.Decides.{nat_tests}
use Rattle.definition.specs.State.{arrived, is_zero, positive}
use Rattle.definition.specs.BadState.{ok_net}
use Rattle.queue.specs.Rows.{net_of}
use Rattle.queue.specs.Queues.{moved}

pub net_new : (anti : Bool) → net_of (moved anti 256) ≡ arrived anti (pos 0)
unfolding net_of
net_new true = refl
net_new false = refl

-- one arrival more
pub net_moved : (anti : Bool) (c : ℕ) → 1 ≤ c → net_of (moved anti c) ≡ arrived anti (net_of c)
unfolding net_of
net_moved true c h = grind (arith, nat_tests)
net_moved false c h = grind (arith, nat_tests)

pub net_gone : (anti : Bool) (c : ℕ) → 1 ≤ c → is_zero (arrived anti (net_of c)) ≡ eqb (moved anti c) 256
unfolding net_of
net_gone true c h = grind (arith, nat_tests)
net_gone false c h = grind (arith, nat_tests)

-- ---- within the bounds, or not

pub net_ok : (c : ℕ) → (c ≡ 256 → ⊥) → ok_net (net_of c) ≡ leb 127 c && leb c 385
unfolding net_of
net_ok c z = grind (arith, nat_tests, z)

pub net_new_ok : (anti : Bool) → ok_net (net_of (moved anti 256)) ≡ true
unfolding net_of
net_new_ok true = refl
net_new_ok false = refl

pub net_range : (c : ℕ) → ok_net (net_of c) ≡ true → (1 ≤ c) × (c < 512)
unfolding net_of
net_range c h = (grind (arith, nat_tests), grind (arith, nat_tests))

pub net_positive : (c : ℕ) → positive (net_of c) ≡ ltb 256 c
unfolding net_of
net_positive c = grind (arith, nat_tests)
