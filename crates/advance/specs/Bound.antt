-- How far an advance goes, told by the rows: the least unread time of the processes, and the horizon.
use Rattle.std.specs.Prelude.{◌≡◌, refl, true, false, cond, ◌&&◌, List, [], ◌∷◌, map, ℕ, zero, suc, ◌+◌, ◌-◌, ◌≤◌, ◌<◌, ltb, min, max}
use Rattle.std.proofs.Common.{ap, ◌∙◌, add-one, arith}
use Rattle.std.specs.List.{fold, reduce, range_with_len}
use Rattle.std.specs.Option.{unwrap_or}
use Rattle.definition.specs.declared.Stand.{Stand}
use Rattle.definition.specs.Calls.{least_mail, least_unread, bound, reached}
use Rattle.definition.specs.Message.{never}
use Rattle.definition.specs.State.{Process, Entry, positive, last, unread_after, unread}
use Rattle.queue.specs.Rows.{entries, mails}
use Rattle.rule.specs.Rows.{processes_of}
use Rattle.memory.specs.Memory.{Memory, Rows, Table, number, listed, process_at, state_of}
use Rattle.advance.specs.Rows.{history_of, rows_at}

abbrev pub base_of : Rows → Stand
base_of own = record { mode = number own 3; tally = number own 4 }

-- the unread time of a process with these rows
unfoldable pub unread_of : Rows → Rows → ℕ
unread_of own inputs = unread_after (last (base_of own) (history_of own)).time (entries inputs (number own 0))

abbrev pub unread_at : Table → Table → ℕ → ℕ
unread_at own inputs p = unread_of (rows_at own p) (rows_at inputs p)

-- the least of f k, f (k + 1) .., n of them, or "never"
unfoldable pub least_of : (ℕ → ℕ) → ℕ → ℕ → ℕ
least_of f k zero = never
least_of f k (suc n) = min (f k) (least_of f (suc k) n)

pub least_none : (f : ℕ → ℕ) (n : ℕ) → never ≡ least_of f n (n - n)
unfolding least_of
least_none f n = let z : n - n ≡ 0 = omega arith in rw z

pub least_more : (f : ℕ → ℕ) (i n : ℕ) → 0 < i → i ≤ n → min (f (i - 1)) (least_of f i (n - i)) ≡ least_of f (i - 1) (n - (i - 1))
unfolding least_of
least_more f i n a b =
    let x : n - (i - 1) ≡ suc (n - i) = omega arith in
    let y : suc (i - 1) ≡ i = omega arith in
    rw (x, y)

-- ---- the least of a list of them

unread_most : (t : ℕ) (l : List Entry) → unread_after t l ≤ never
unfolding unread_after
unread_most t [] = omega arith
unread_most t (e ∷ l) = elim (ltb t e.message.received && positive e.net) as (λ b. cond b (min e.message.received (unread_after t l)) (unread_after t l) ≤ never) [
  | true ↦ omega (arith, unread_most t l)
  | false ↦ unread_most t l
]

unread_at_most : (own inputs : Table) (p : ℕ) → unread_at own inputs p ≤ never
unfolding unread_of
unread_at_most own inputs p = unread_most _ _

fold_least : (f : ℕ → ℕ) (k n x : ℕ) → x ≤ never → fold min x (map f (range_with_len k n)) ≡ min x (least_of f k n)
unfolding least_of
fold_least f k zero x h = omega arith
fold_least f k (suc n) x h =
    let i = fold_least f (suc k) n (min x (f k)) (omega arith) in
    let e : k + 1 ≡ suc k = add-one k in
    rw e (i ∙ (let z : min (min x (f k)) (least_of f (suc k) n) ≡ min x (min (f k) (least_of f (suc k) n)) = omega arith in z))

pub least_found : (own inputs : Table) (n : ℕ) → unwrap_or (reduce min (map (unread_at own inputs) (range_with_len 0 n))) never ≡ least_of (unread_at own inputs) 0 n
unfolding least_of
least_found own inputs zero = refl
least_found own inputs (suc n) = fold_least (unread_at own inputs) 1 n (unread_at own inputs 0) (unread_at_most own inputs 0)

least_listed : (k n : ℕ) (g : ℕ → Process) → least_of (λ p. unread (g p)) k n ≡ least_unread (listed k n g)
unfolding least_of least_unread listed
least_listed k zero g = refl
least_listed k (suc n) g = ap (min (unread (g k))) (least_listed (suc k) n g)

-- the horizon after an advance: `whole` are the rows of the whole
unfoldable pub reached_of : Table → Table → Rows → ℕ → ℕ → ℕ
reached_of own inputs transit n ceiling =
    let whole : Rows = rows_at own 8 in
    max (number whole 1) (min (min (least_mail (mails transit (number whole 0))) (least_of (unread_at own inputs) 0 n)) ceiling)

-- step by step
pub reached_by : (own inputs : Table) (transit : Rows) (n ceiling : ℕ) {count mail soonest bound' low r : ℕ} → count ≡ number (rows_at own 8) 0 → mail ≡ least_mail (mails transit count)
    → soonest ≡ least_of (unread_at own inputs) 0 n → bound' ≡ min mail soonest → low ≡ min bound' ceiling → r ≡ max (number (rows_at own 8) 1) low → r ≡ reached_of own inputs transit n ceiling
unfolding reached_of
reached_by own inputs transit n ceiling a b c d e f = rw (e, d, b, a, c) at f

pub reached_same : (m : Memory) (ceiling : ℕ) → reached_of m.own m.inputs m.transit (processes_of m.model) ceiling ≡ reached (state_of m) ceiling
unfolding reached_of reached bound state_of unread unread_of
reached_same m ceiling =
    ap (λ (u : ℕ). max (state_of m).horizon (min (min (least_mail (state_of m).transit) u) ceiling)) (least_listed 0 (processes_of m.model) (process_at m))
