-- A host's own calls are a rehearsal. After a start that is not refused, any calls of `engine`, each on the memory that the one before left, give the
-- state, the answers and the record of `rehearsal M cs`, whose model M is the one that was started; so demands 2 and 3 hold of what the host has.
-- Nothing is asked of the calls: any order, refused ones among them, and for each advance a buffer of any length.
use Rattle.std.proofs.Math.Path.{◌≡◌, refl, sym, ap}
use Rattle.std.proofs.Common.{◌∙◌, append_assoc, append-nil, arith, take_at}
use Rattle.std.specs.Prelude.{Bool, ◌&&◌, List, [], ◌∷◌, ◌++◌, ℕ, length, take}
use Rattle.std.proofs.Math.Bool.{true, false, not}
use Rattle.definition.specs.Answer.{Answer, Started}
use Rattle.definition.specs.declared.Call.{Call}
use Rattle.definition.specs.declared.Call.TheVariants.{Advance}
use Rattle.definition.specs.Lists.{all}
use Rattle.definition.specs.State.{State}
use Rattle.definition.specs.Record.{onto}
use Rattle.definition.specs.Calls.{Result, check, done, start, started}
use Rattle.definition.specs.BadState.{call}
use Rattle.definition.specs.Model.{Model, ok_model}
use Rattle.definition.specs.Rehearsal.{Rehearsal, after, calls, answers_of, rehearsal}
use Rattle.laws.specs.Places.{true_and}
use Rattle.lawful.specs.Written.{written_of, is_advance, told_bytes, no_bytes}
use Rattle.demands.specs.Held.{Held, held, held_calls}
use Rattle.demands.specs.NeverBad.{refused_as_bad, never_refused_as_bad}
use Rattle.demands.specs.Demands.{DemandTwo, DemandThree, demand_two, demand_three}
use Rattle.rule.specs.Rows.{model_of, shaped_model}
use Rattle.memory.specs.Memory.{Memory, state_of, shaped, lawful}
use Rattle.memory.specs.Laws.{lawful_shape, lawful_sane, shape_shaped}
use Rattle.memory.specs.Promise.{is_refusal, sized, due_start, Begun, due, Kept, Committed}
use Rattle.memory.specs.Keeping.{check_no}

-- ---- what a host has

-- One call on the memory m: its answer a, the memory v that it left, and the bytes of the record that the host then has. They are those that an
-- advance's answer says were written, at the start of its buffer, b when it was lent and d when it came back; any other call gives none
pub data Called (m : Memory) : Call → Answer → Memory → List ℕ → Type 0 where
  kept : {c : Call} {a : Answer} {v : Memory} → is_advance c ≡ false → Kept m c a v → Called m c a v []
  committed : {ceiling room : ℕ} {a : Answer} {v : Memory} {b d : List ℕ} → length b ≡ room → Committed m (Advance ceiling room) a v b d
      → Called m (Advance ceiling room) a v (take (written_of a) d)

-- many, each on the memory that the one before left: the calls, their answers, and their bytes joined
pub data Chain : Memory → List Call → List Answer → List ℕ → Memory → Type 0 where
  none : {m : Memory} → Chain m [] [] [] m
  then : {m v w : Memory} {c : Call} {a : Answer} {cs : List Call} {told : List Answer} {bs rest : List ℕ}
      → Called m c a v bs → Chain v cs told rest w → Chain m (c ∷ cs) (a ∷ told) (bs ++ rest) w

-- ---- what it is

-- M the model that was started, cs the calls, `told` their answers, bs the bytes joined, w the memory now
pub record Rehearsed (M : Model) (cs : List Call) (told : List Answer) (bs : List ℕ) (w : Memory) : Type 0 where
  pub state : state_of w ≡ (rehearsal M cs).state
  pub answers : told ≡ answers_of (started M) cs
  pub bytes : bs ≡ (rehearsal M cs).bytes
  pub lawful_now : lawful w ≡ true
  pub none_bad : all (λ (a : Answer). not (refused_as_bad a)) told ≡ true
  pub two : DemandTwo M (rehearsal M cs)
  pub three : (later : List Call) → DemandThree M (rehearsal M cs) (rehearsal M (cs ++ later))

-- ---- one call

-- on a lawful memory what is due is what the definition says of its state
due_is : (m : Memory) (c : Call) → lawful m ≡ true → due m c ≡ call (state_of m) c
unfolding due
due_is m c l = check_no (not (shaped m)) 16 (state_of m) (call (state_of m) c) (ap not (shape_shaped m (lawful_shape m l)))

record Done (m : Memory) (c : Call) (a : Answer) (v : Memory) (bs : List ℕ) : Type 0 where
  answer : a ≡ (call (state_of m) c).answer
  state : state_of v ≡ (call (state_of m) c).after
  bytes : bs ≡ (call (state_of m) c).bytes
  lawful_now : lawful v ≡ true

done_by : {m : Memory} {c : Call} {a : Answer} {v : Memory} (bs : List ℕ) → lawful m ≡ true → Kept m c a v → bs ≡ (call (state_of m) c).bytes → Done m c a v bs
done_by {m} {c} bs l k e =
    let d = due_is m c l in
    record { answer = k.answer ∙ ap (λ (r : Result). r.answer) d; state = k.state ∙ ap (λ (r : Result). r.after) d; bytes = e; lawful_now = k.lawful_again l }

called : {m : Memory} {c : Call} {a : Answer} {v : Memory} {bs : List ℕ} → lawful m ≡ true → Called m c a v bs → Done m c a v bs
unfolding onto
called {m} {c} l (kept other k) = done_by [] l k (sym (no_bytes (state_of m) c other))
called {m} {c} {a} l (committed {b = b} {d = d} _ k) =
    let e = due_is m c l in
    let written : written_of a ≡ length (call (state_of m) c).bytes = ap written_of (k.kept.answer ∙ ap (λ (r : Result). r.answer) e) ∙ told_bytes (state_of m) c in
    let buffer : d ≡ onto (call (state_of m) c).bytes b = k.buffer ∙ ap (λ (r : Result). onto r.bytes b) e in
    done_by (take (written_of a) d) l k.kept (rw (written, buffer) (take_at _ _ _ refl))

-- ---- many

module _ (M : Model) (ok : ok_model M ≡ true) where
  record Follows (z : Rehearsal) (cs : List Call) (told : List Answer) (bs : List ℕ) (w : Memory) : Type 0 where
    state : state_of w ≡ (calls z cs).state
    answers : told ≡ answers_of z.state cs
    bytes : (calls z cs).bytes ≡ z.bytes ++ bs
    lawful_now : lawful w ≡ true
    none_bad : all (λ (a : Answer). not (refused_as_bad a)) told ≡ true

  follows : {m w : Memory} {cs : List Call} {told : List Answer} {bs : List ℕ} (z : Rehearsal) → Held M z → lawful m ≡ true → state_of m ≡ z.state
      → Chain m cs told bs w → Follows z cs told bs w
  unfolding calls answers_of all
  follows z h l e none = record { state = e; answers = refl; bytes = sym (append-nil z.bytes); lawful_now = l; none_bad = refl }
  follows {m} z h l e (then {v = v} {c = c} {a = a} {cs = cs} {bs = bs} {rest = rest} k more) =
      let r = called l k in
      let step : call (state_of m) c ≡ call z.state c = ap (λ (s : State). call s c) e in
      let answer : a ≡ (call z.state c).answer = r.answer ∙ ap (λ (x : Result). x.answer) step in
      let next : state_of v ≡ (call z.state c).after = r.state ∙ ap (λ (x : Result). x.after) step in
      let wrote : bs ≡ (call z.state c).bytes = r.bytes ∙ ap (λ (x : Result). x.bytes) step in
      let f = follows (after z c (call z.state c)) (held_calls M ok z (c ∷ []) h) r.lawful_now next more in
      let not_bad : refused_as_bad a ≡ false = rw answer (never_refused_as_bad M ok z h (rw e at (lawful_sane m l)) c) in
      record {
        state = f.state;
        answers = rw (answer, f.answers);
        bytes = f.bytes ∙ rw wrote (append_assoc z.bytes (call z.state c).bytes rest);
        lawful_now = f.lawful_now;
        none_bad = true_and (ap not not_bad) f.none_bad;
      }

-- ---- from the start

module _ (m : Memory) where
  record Accepted : Type 0 where
    model : ok_model (model_of m.model) ≡ true
    first : (due_start m).after ≡ started (model_of m.model)

  -- a start that is not refused has passed both its tests
  accepted : is_refusal (due_start m).answer ≡ false → Accepted
  unfolding due_start start check
  accepted = go (shaped_model m.model && sized m) refl (ok_model (model_of m.model)) refl
    where
      refuses : {X : Type 0} → true ≡ false → X
      refuses e = let z : ◌≡◌ {A = ℕ} 0 1 = cc in absurd (omega arith)

      go : (b : Bool) → shaped_model m.model && sized m ≡ b → (d : Bool) → ok_model (model_of m.model) ≡ d
          → is_refusal (check (not b) 16 (state_of m) (check (not d) 16 (state_of m) (done Started (started (model_of m.model))))).answer ≡ false → Accepted
      go false f d g e = refuses e
      go true f false g e = refuses e
      go true f true g e = record { model = g; first = rw (f, g) }

pub a_rehearsal : {m v w : Memory} {a : Answer} {cs : List Call} {told : List Answer} {bs : List ℕ}
    → Begun m a v → is_refusal a ≡ false → Chain v cs told bs w → Rehearsed (model_of m.model) cs told bs w
unfolding rehearsal
a_rehearsal {m} {v} {w} {a} {cs} {told} {bs} b is h =
    let M : Model = model_of m.model in
    let s = accepted m (rw b.answer at is) in
    let first : state_of v ≡ started M = b.state ∙ s.first in
    let f = follows M s.model (rehearsal M []) (held M s.model []) (b.lawful_first is) first h in
    record {
      state = f.state;
      answers = f.answers;
      bytes = sym f.bytes;
      lawful_now = f.lawful_now;
      none_bad = f.none_bad;
      two = demand_two M s.model cs;
      three = λ later. demand_three M s.model cs later;
    }
