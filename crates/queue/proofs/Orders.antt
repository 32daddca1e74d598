-- What `definition`'s tests of a queue say of its rows: the order of two of them, and the range of a count.
use Rattle.std.specs.Prelude.{ℕ, ◌≡◌, true, List, [], ◌∷◌, ◌≤◌, ◌<◌, map, length, get_or}
use Rattle.std.proofs.lemmas.List.{length-map}
use Rattle.std.proofs.Math.ListN.{get_or-map}
use Prim.Native.Nat.{Ordering}
use Rattle.definition.specs.Lists.{in_order}
use Rattle.definition.specs.Message.{Message, output_key}
use Rattle.definition.specs.State.{Entry, entry_key}
use Rattle.definition.specs.BadState.{ok_net, ok_nets}
use Rattle.laws.specs.Rising.{Rising, in_order_rises}
use Rattle.laws.specs.Places.{all_at, pairs}
use Rattle.queue.specs.Rows.{message_of, entry_of}
use Rattle.queue.specs.Queues.{reading_order, sent_at, received_at}
use Rattle.queue.proofs.Nets.{net_range}

module _ (q : List (List ℕ)) where
  module _ (asc : in_order entry_key (map entry_of q) ≡ true) where
    pub ascends : (j k : ℕ) → j < k → k < length q → reading_order (get_or q j []) (get_or q k []) ≡ Ordering.lt
    ascends j k a b = rw (get_or-map entry_of q j [], get_or-map entry_of q k []) at (pairs entry_key (entry_of []) (map entry_of q) asc j k a (rw (length-map q entry_of) b))

    pub received_rises : Rising received_at (entry_of []) (map entry_of q)
    received_rises = in_order_rises received_at (entry_of []) (λ (e : Entry). e.message.sent ∷ e.message.sender ∷ e.message.ordinal ∷ e.message.kind ∷ e.message.value ∷ e.message.receiver ∷ []) (map entry_of q) asc

    pub rows_rise : (j k : ℕ) → j ≤ k → k < length q → get_or (get_or q j []) 0 0 ≤ get_or (get_or q k []) 0 0
    rows_rise j k a b = rw (get_or-map entry_of q j [], get_or-map entry_of q k []) at (received_rises j k a (rw (length-map q entry_of) b))

  pub counts : ok_nets (map entry_of q) ≡ true → (k : ℕ) → k < length q → (1 ≤ get_or (get_or q k []) 7 0) × (get_or (get_or q k []) 7 0 < 512)
  counts ok k b = net_range (get_or (get_or q k []) 7 0) (rw (get_or-map entry_of q k []) at (all_at (λ (e : Entry). ok_net e.net) (map entry_of q) (entry_of []) ok k (rw (length-map q entry_of) b)))

pub sent_rises : (o : List (List ℕ)) → in_order output_key (map message_of o) ≡ true → Rising sent_at (message_of []) (map message_of o)
sent_rises o asc = in_order_rises sent_at (message_of []) (λ (m : Message). m.ordinal ∷ []) (map message_of o) asc
