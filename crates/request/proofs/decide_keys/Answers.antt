-- `request::decide_keys` meets its contract: what is known of the algorithm decides.
use mathlib.Core.Path.{sym, ap, ◌∙◌}
use Prim.Native.Nat.{◌/◌}
use Rattle.wire.specs.Bytes.{number_at}
use Rattle.layout.specs.Table.{row_of, shape_of}
use Rattle.walk.specs.Shown.{slot_of}
use Rattle.walk.specs.declared.Seen.{Seen}
use Rattle.request.specs.Request.{told_answer}
use Rattle.request.proofs.Decided.{right_keys, wrong_keys, no_algorithm}
use Rattle.request.proofs.decide_keys.Goals as goal

pub returns-then-keys-d : goal.returns-then-keys-d
unfolding slot_of shape_of row_of
returns-then-keys-d c = c.fixed_key.ensures ∙ right_keys _ _ _ c.requires.0 c.requires.1 c.requires.2 _ _ (c.number_at.ensures ∙ ap (λ (v : Seen). number_at c.args.message.now v.start) c.found-algorithms.ensures) c.description-description.ensures _ c.in-Known.is (sym (ap (λ (v : Seen). v.len / 2) c.found-keys.ensures) ∙ c.if-keys-d.true)

pub returns-else-keys-d : goal.returns-else-keys-d
unfolding slot_of shape_of row_of
returns-else-keys-d c = ap told_answer c.refused.ensures ∙ wrong_keys _ _ _ c.requires.0 c.requires.1 c.requires.2 _ _ (c.number_at.ensures ∙ ap (λ (v : Seen). number_at c.args.message.now v.start) c.found-algorithms.ensures) c.description-description.ensures _ c.in-Known.is (λ e. c.if-keys-d.false (ap (λ (v : Seen). v.len / 2) c.found-keys.ensures ∙ e))

pub returns-in-Unknown : goal.returns-in-Unknown
unfolding slot_of shape_of row_of
returns-in-Unknown c = ap told_answer c.refused-in-Unknown.ensures ∙ no_algorithm _ _ _ c.requires.0 c.requires.1 c.requires.2 _ _ (c.number_at.ensures ∙ ap (λ (v : Seen). number_at c.args.message.now v.start) c.found-algorithms.ensures) c.description-description.ensures c.in-Unknown.is
