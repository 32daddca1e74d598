-- Net counts stay within -129 to 129. A message is from one place at most once, so by conservation its count is the copies in transit and
-- one more at most; and transit holds 128.
use Rattle.std.specs.Prelude.{◌≡◌, Bool, true, false, cond, not, ◌&&◌, List, [], ◌∷◌, ◌⊎◌, length, ℤ, pos, negsuc, leb}
use Rattle.std.proofs.Math.Path.{refl}
use Rattle.std.proofs.Common.{sym, ap, ◌∙◌, subst, inl, inr, arith, le-leb, lt-ltb, le-ltb, leb-false}
use Prim.Native.Nat.{ℕ, zero, suc, ◌+◌, ◌≤◌, ◌<◌, Ordering}
use Rattle.std.proofs.Math.ListN.{get_or, get_or-eq_default}
use Rattle.definition.specs.BadState.{ok_net, passes}
use Rattle.definition.specs.Lists.{all}
use Rattle.definition.specs.Message.{Message, message_key, outside}
use Rattle.definition.specs.Model.{Model, ok_model}
use Rattle.definition.specs.State.{Entry, entry, Process, Mail, State, no_process, process, reads_at, no_mail, arrived, is_zero, counted}
use Rattle.laws.specs.Lists.{hit, In, in_self}
use Rattle.laws.specs.Order.{keys_refl}
use Rattle.demands.specs.InputQueue.{above_zero, below_zero, above, below, weigh, one_sign, counted_by}
use Rattle.demands.specs.Invariant.{first, Invariant, ProcessInvariant, output_sent, origin, sendings, sent_so_far}
use Rattle.lawful.specs.Keys.{order, #}
use Rattle.definition.specs.BadState.{ok_nets}
use Rattle.lawful.specs.Model.{few}
use Rattle.lawful.specs.Sends.{event_sends, once}
use Rattle.laws.specs.Places.{and_true, true_and}
use Rattle.laws.specs.Tests.{split}
use Rattle.demands.specs.Trace.{Trace, stand_from, sends_from, source, none_sent, sent}
use Rattle.demands.specs.Transit.{positives, negatives, positive_hit, negative_hit, take_out, InTransit, transit_at}

-- ---- a net count within bounds

net_ok : (z : ℤ) → is_zero z ≡ false → above_zero z ≤ 129 → below_zero z ≤ 129 → ok_net z ≡ true
net_ok (pos zero) e a b = cc
net_ok (pos (suc n)) e a b = true_and (lt-ltb 0 (suc n) (omega arith)) (le-leb (suc n) 129 a)
net_ok (negsuc n) e a b = le-leb n 128 (omega arith)

arrived_le : (a : Bool) (z : ℤ) → (above_zero (arrived a z) ≤ above_zero z + cond a 0 1) × (below_zero (arrived a z) ≤ below_zero z + cond a 1 0)
arrived_le true (pos zero) = (omega arith, omega arith)
arrived_le true (pos (suc n)) = (omega arith, omega arith)
arrived_le true (negsuc n) = (omega arith, omega arith)
arrived_le false (pos n) = (omega arith, omega arith)
arrived_le false (negsuc zero) = (omega arith, omega arith)
arrived_le false (negsuc (suc n)) = (omega arith, omega arith)

one_new : (a : Bool) → ok_net (arrived a (pos 0)) ≡ true
one_new true = refl
one_new false = refl

counted_nets : (a : Bool) (x : Message) (l : List Entry) → ok_nets l ≡ true → above x l + cond a 0 1 ≤ 129 → below x l + cond a 1 0 ≤ 129 → ok_nets (counted a x l) ≡ true
unfolding counted all above below
counted_nets a x [] k u d = true_and (one_new a) refl
counted_nets a x (e ∷ es) k u d = let b = and_true (ok_net e.net) (ok_nets es) k in go (order x e.message) u d b.0 b.1 (counted_nets a x es b.1)
  where
    same : (c : Bool) → is_zero (arrived a e.net) ≡ c → above_zero e.net + cond a 0 1 ≤ 129 → below_zero e.net + cond a 1 0 ≤ 129 → ok_nets es ≡ true
        → ok_nets (cond c es (entry e.message (arrived a e.net) ∷ es)) ≡ true
    same true f g h r = r
    same false f g h r = let w = arrived_le a e.net in true_and (net_ok (arrived a e.net) f (omega (arith, w.0)) (omega (arith, w.1))) r

    go : (o : Ordering) → weigh o (above_zero e.net) + above x es + cond a 0 1 ≤ 129 → weigh o (below_zero e.net) + below x es + cond a 1 0 ≤ 129
        → ok_net e.net ≡ true → ok_nets es ≡ true
        → (above x es + cond a 0 1 ≤ 129 → below x es + cond a 1 0 ≤ 129 → ok_nets (counted a x es) ≡ true)
        → ok_nets (counted_by a x e es o) ≡ true
    go Ordering.lt g h m r ih = true_and (one_new a) (true_and m r)
    go Ordering.eq g h m r ih = same (is_zero (arrived a e.net)) refl (omega arith) (omega arith) r
    go Ordering.gt g h m r ih = true_and m (ih (omega arith) (omega arith))

-- ---- where a message is from: at most once

few_in_transit : (m : Message) (l : List Mail) → positives m l + negatives m l ≤ length l
unfolding positives negatives
few_in_transit m [] = omega arith
few_in_transit m (x ∷ xs) = go (order m x.message) x.anti (few_in_transit m xs)
  where
    go : (o : Ordering) (b : Bool) → positives m xs + negatives m xs ≤ length xs → cond b 0 (hit o) + positives m xs + (cond b (hit o) 0 + negatives m xs) ≤ suc (length xs)
    go Ordering.lt true h = omega arith
    go Ordering.lt false h = omega arith
    go Ordering.eq true h = omega arith
    go Ordering.eq false h = omega arith
    go Ordering.gt true h = omega arith
    go Ordering.gt false h = omega arith

no_reads : (t : ℕ) → length (reads_at t []) ≡ 0
unfolding reads_at
no_reads t = refl

module _ (M : Model) (ok : ok_model M ≡ true) (R : List Message) (F : Trace) (s : State) (inv : Invariant M R F s) where
  -- nothing is read outside
  out_read : (t : ℕ) (l : List Message) → F outside t ≡ l → l ≡ []
  out_read t [] e = refl
  out_read t (x ∷ xs) e = absurd (split t s.horizon
      (λ k. let o = inv.right.sound outside t x k (subst (λ (l : List Message). In message_key x l) (sym e) (in_self message_key x xs)) in go (# x R) refl o.0 o.2)
      (λ k. omega (
        arith,
        ap (λ (l : List Message). length l) (sym e ∙ ((inv.processes outside).reads t k ∙ ap (λ (pr : Process). reads_at t pr.input)
            (get_or-eq_default s.processes no_process (omega (arith, inv.sized, few M ok))))),
        no_reads t,
      )))
    where
      go : (n : ℕ) → # x R ≡ n → x.receiver ≡ outside → 0 < source M (first M) R F x → ⊥
      go zero a b c = omega (arith, (sent M (first M) ok F x.sender x.sent x (omega arith)).1.receiver, few M ok)
      go (suc n) a b c = omega (arith, (inv.accepted x (omega arith)).receiver, few M ok)

  sent_le : (m : Message) → sent_so_far M F s m ≤ sendings M F m
  sent_le m = go (# m (process s m.sender).output) refl
    where
      v : ProcessInvariant M F s.horizon m.sender (process s m.sender)
      v = inv.processes m.sender

      go : (n : ℕ) → # m (process s m.sender).output ≡ n → sent_so_far M F s m ≤ sendings M F m
      go zero e = split m.sent s.horizon (λ k. rw (lt-ltb m.sent s.horizon k) (omega arith)) (λ k. rw (le-ltb m.sent s.horizon k) (omega arith))
      go (suc n) e =
          let o = output_sent M ok F s.horizon m.sender (process s m.sender) v m (omega arith) in
          let x = v.output_only m (omega arith) in
          rw (le-ltb m.sent s.horizon o.2) (omega (arith, v.output_ran m x.0 x.1 x.2))

  origin_once : (m : Message) → origin M R F s m ≤ 1
  unfolding sends_from
  origin_once m = go (# m R) refl
    where
      one : sendings M F m ≤ 1
      one = once (event_sends M ok m.sender m.sent (stand_from M (first M) F m.sender m.sent) (F m.sender m.sent)).sends m

      go : (n : ℕ) → # m R ≡ n → origin M R F s m ≤ 1
      go zero e = omega (arith, sent_le m, one)
      go (suc n) e =
          let q : m.sender ≡ outside = (inv.accepted m (omega arith)).by in
          omega (arith, inv.once m, sent_le m, none_sent M (first M) F m.sender m.sent m (ap (λ (p : ℕ). F p m.sent) q ∙ out_read m.sent (F outside m.sent) refl))

  -- the counts of a message that is about to be delivered
  counts : length s.transit ≤ 128 → (x : Mail)
      → positive_hit x.message x ≤ positives x.message s.transit → negative_hit x.message x ≤ negatives x.message s.transit → InTransit x.message s.transit
      → (above x.message (process s x.message.receiver).input + cond x.anti 0 1 ≤ 129)
      × (below x.message (process s x.message.receiver).input + cond x.anti 1 0 ≤ 129)
  counts w x a b u = go x.anti (keys_refl (message_key x.message)) a b
      (one_sign x.message (process s x.message.receiver).input (inv.processes x.message.receiver).input_ascends)
    where
      U : ℕ
      U = above x.message (process s x.message.receiver).input

      N : ℕ
      N = below x.message (process s x.message.receiver).input

      flow : U + positives x.message s.transit ≡ N + negatives x.message s.transit + origin M R F s x.message
      flow = inv.flow x.message (inv.mail x.message u).from

      room : positives x.message s.transit + negatives x.message s.transit ≤ 128
      room = omega (arith, few_in_transit x.message s.transit, w)

      go : (c : Bool) → order x.message x.message ≡ Ordering.eq → cond c 0 (hit (order x.message x.message)) ≤ positives x.message s.transit
          → cond c (hit (order x.message x.message)) 0 ≤ negatives x.message s.transit → (U ≡ 0) ⊎ (N ≡ 0)
          → (U + cond c 0 1 ≤ 129) × (N + cond c 1 0 ≤ 129)
      go true r f g (inl z) = (omega arith, omega (arith, flow, room, rw r at g))
      go true r f g (inr z) = (omega (arith, flow, room, origin_once x.message), omega arith)
      go false r f g (inl z) = (omega arith, omega (arith, flow, room))
      go false r f g (inr z) = (omega (arith, flow, room, origin_once x.message, rw r at f), omega arith)

  -- so a delivery passes no net count
  pub no_pass : length s.transit ≤ 128 → ((p : ℕ) → p < length s.processes → ok_nets (process s p).input ≡ true) → (i : ℕ) → passes s i ≡ false
  unfolding passes
  no_pass w nets i = go (leb (length s.transit) i) refl
    where
      x : Mail
      x = get_or s.transit i no_mail

      after : i < length s.transit → ok_nets (counted x.anti x.message (process s x.message.receiver).input) ≡ true
      after k =
          let t = take_out x.message i s.transit no_mail k in
          let u = transit_at i s.transit no_mail k in
          let c = counts w x (omega (arith, t.0)) (omega (arith, t.1)) u in
          counted_nets x.anti x.message (process s x.message.receiver).input
          (nets x.message.receiver (omega (arith, (inv.mail x.message u).receiver, inv.sized))) c.0 c.1

      go : (b : Bool) → leb (length s.transit) i ≡ b → not b && not (ok_nets (counted x.anti x.message (process s x.message.receiver).input)) ≡ false
      go true e = refl
      go false e = ap not (after (leb-false (length s.transit) i e))
