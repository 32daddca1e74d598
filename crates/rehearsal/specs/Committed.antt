-- The committed record in what the program prints: the lines of events that stand in the text are those of the rehearsal whose calls stand in the
-- input. By demand 3 they are the events of the one-after-another run of the accepted requests that are earlier than the horizon.
use Rattle.std.specs.Prelude.{◌≡◌, refl, Bool, cond, leb, ltb, length, take, drop}
use Rattle.std.proofs.Math.Path.{sym, ap}
use Rattle.std.proofs.Common.{◌∙◌}
use Rattle.std.proofs.Math.Bool.{true, false}
use mathlib.Core.List.{List, [], ◌∷◌, ◌++◌, append-nil, append_assoc}
use Prim.Native.Nat.{ℕ, zero, suc, ◌+◌}
use Rattle.definition.specs.declared.Call.{Call}
use Rattle.definition.specs.declared.Event.{Event}
use Rattle.definition.specs.Lists.{keep}
use Rattle.definition.specs.Model.{Model}
use Rattle.definition.specs.ModelBytes.{Parsed, Got, Fault, model_in}
use Rattle.definition.specs.Calls.{started}
use Rattle.definition.specs.BadState.{call}
use Rattle.definition.specs.Program.{call_text, call_at, call_lines, or_fault, calls_from, model_from, printed, event_line, event_lines}
use Rattle.definition.specs.Rehearsal.{Rehearsal, after, calls, rehearsal}
use Rattle.definition.specs.Run.{run_events}
use Rattle.demands.specs.Demands.{demand_three}
use Rattle.model.specs.Accepted.{accepted}
use Rattle.text.specs.declared.Part.TheVariants.{File, Model as ModelPart, Call as CallPart}
use Rattle.runfile.specs.Reading.{head_of, head_lines, printed_head}
use Rattle.rehearsal.specs.EventLines.{event_lines_in, fault_events, model_events, call_events}
use Rattle.rehearsal.specs.Promise.{model_by}

-- ---- the calls that stand in the input

abbrev pub call_then : Parsed Call → (ℕ → List Call) → List Call
call_then (Got c next) f = c ∷ f next
call_then (Fault n place) f = []

-- from a place on, up to the end or the first fault; n is at least as many as are left
unfoldable pub calls_in : ℕ → List ℕ → ℕ → List Call
unfolding call_at
calls_in zero bs at = []
calls_in (suc n) bs at = cond (leb (length bs) at) [] (call_then (call_at bs at) (calls_in n bs))

-- each call takes a byte or more
abbrev pub calls_read : List ℕ → ℕ → List Call
calls_read bs at = calls_in (length bs) bs at

-- ---- their events

-- the lines of the events of the one-after-another run of the accepted requests that are earlier than the horizon
abbrev pub run_lines : Model → Rehearsal → List ℕ
run_lines M z = event_lines (keep (λ (e : Event). ltb e.time z.state.horizon) (run_events M z.accepted))

events_append : (es ds : List Event) → event_lines (es ++ ds) ≡ event_lines es ++ event_lines ds
unfolding event_lines
events_append [] ds = refl
events_append (e ∷ es) ds = rw (events_append es ds) (sym (append_assoc (event_line e) (event_lines es) (event_lines ds)))

module _ (bs : List ℕ) where
  -- those committed so far, and those that stand in what is printed from a place on
  calls_events : (n : ℕ) (z : Rehearsal) (at : ℕ) → event_lines z.events ++ event_lines_in (calls_from n bs z.state at) ≡ event_lines (calls z (calls_in n bs at)).events
  unfolding calls_from calls_in calls event_lines_in
  calls_events zero z at = append-nil (event_lines z.events)
  calls_events (suc n) z at = go (leb (length bs) at) (call_at bs at) (calls_events n)
    where
      go : (b : Bool) (p : Parsed Call) → ((z : Rehearsal) (at : ℕ) → event_lines z.events ++ event_lines_in (calls_from n bs z.state at) ≡ event_lines (calls z (calls_in n bs at)).events)
          → event_lines z.events ++ event_lines_in (cond b [] (or_fault call_text 0 p (λ c next. call_lines c (call z.state c) ++ calls_from n bs (call z.state c).after next)))
          ≡ event_lines (calls z (cond b [] (call_then p (calls_in n bs)))).events
      go true p ih = append-nil (event_lines z.events)
      go false (Fault m place) ih = rw (fault_events CallPart m (0 + place)) (append-nil (event_lines z.events))
      go false (Got c next) ih = let r = call z.state c in
          ap (λ (l : List ℕ). event_lines z.events ++ l) (call_events c r _) ∙ sym (append_assoc (event_lines z.events) (event_lines r.events) _)
          ∙ ap (λ (l : List ℕ). l ++ event_lines_in (calls_from n bs r.after next)) (sym (events_append z.events r.events)) ∙ ih (after z c r) next

  -- where no model is read there is no event
  pub printed_none : (n place : ℕ) → model_by bs (head_of bs) ≡ Fault n place → event_lines_in (printed bs) ≡ []
  unfolding model_from
  printed_none n place e = ap event_lines_in (printed_head bs) ∙ go (head_of bs) e
    where
      go : (h : Parsed ℕ) → model_by bs h ≡ Fault n place → event_lines_in (head_lines bs h) ≡ []
      go (Fault k at) e = fault_events File k at
      go (Got at size) e = rw e (fault_events ModelPart n (at + place))

  -- else they are those of the rehearsal
  module _ {at size : ℕ} (h : head_of bs ≡ Got at size) {M : Model} {next : ℕ} (e : model_in (take size (drop at bs)) ≡ Got M next) where
    pub printed_events : event_lines_in (printed bs) ≡ event_lines (rehearsal M (calls_read bs (at + size))).events
    unfolding model_from rehearsal event_lines
    printed_events = rw (printed_head bs, h, e) (model_events (length M) _ ∙ calls_events (length bs) (record { state = started M; accepted = []; events = []; bytes = [] }) (at + size))

    pub printed_record : event_lines_in (printed bs) ≡ run_lines M (rehearsal M (calls_read bs (at + size)))
    printed_record = printed_events ∙ ap event_lines (demand_three M (accepted _ M next e).0 (calls_read bs (at + size)) []).as_the_run
