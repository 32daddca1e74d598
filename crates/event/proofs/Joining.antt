-- Messages join an outbox: none, or some and then others.
use Rattle.std.specs.Prelude.{refl, List, [], ◌++◌, map}
use Rattle.std.proofs.Common.{ap, sym, ◌∙◌, arith, append_assoc, append-nil, length-append}
use Rattle.definition.specs.Message.{Message}
use Rattle.definition.specs.State.{Mail, plus}
use Rattle.laws.specs.Slices.{map_append}
use Rattle.queue.specs.Rows.{messages, mails}
use Rattle.event.specs.declared.Outbox.{Outbox}
use Rattle.event.specs.Event.{Joined}

pub joined_none : (o : Outbox) → Joined [] o o
joined_none o =
    record {
      mail = sym (append-nil (mails o.transit.now o.mails));
      sent = sym (append-nil (messages o.output.now o.sends));
      mails = omega arith;
      sends = omega arith;
      transit = refl;
      output = refl;
    }

pub joined_then : {l m : List Message} {o p r : Outbox} → Joined l o p → Joined m p r → Joined (l ++ m) o r
joined_then {l} {m} {o} {p} {r} a b =
    record {
      mail = b.mail ∙ ap (λ (u : List Mail). u ++ map plus m) a.mail ∙ append_assoc (mails o.transit.now o.mails) (map plus l) (map plus m)
          ∙ ap (λ (u : List Mail). mails o.transit.now o.mails ++ u) (sym (map_append plus l m));
      sent = b.sent ∙ ap (λ (u : List Message). u ++ m) a.sent ∙ append_assoc (messages o.output.now o.sends) l m;
      mails = omega (arith, a.mails, b.mails, length-append l m);
      sends = omega (arith, a.sends, b.sends, length-append l m);
      transit = b.transit ∙ a.transit;
      output = b.output ∙ a.output;
    }
