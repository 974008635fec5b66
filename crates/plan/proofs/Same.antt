-- Any two results that meet a public function's contract are the same, and so are the trays they leave: one theorem a function, over the
-- contract itself.
-- Assumes nothing.
use mathlib.Core.Path.{◌≡◌, sym, ◌∙◌}
use Rattle.layout.proofs.Apart.{count_apart}
use Rattle.plan.proofs.Apart.{tally_apart, appended_apart}
use Rattle.plan.proofs.Plan.new.Reads as new
use Rattle.plan.proofs.Plan.set_port.Reads as set_port
use Rattle.plan.proofs.Plan.clear_port.Reads as clear_port
use Rattle.plan.proofs.Plan.set_name_length.Reads as set_name_length
use Rattle.plan.proofs.Plan.clear_name_length.Reads as clear_name_length
use Rattle.plan.proofs.Plan.set_keep_alive.Reads as set_keep_alive
use Rattle.plan.proofs.Plan.clear_keep_alive.Reads as clear_keep_alive
use Rattle.plan.proofs.Plan.append.Reads as append
use Rattle.plan.proofs.Plan.length.Reads as length
use Rattle.plan.proofs.append_denied.Reads as append_denied
use Rattle.plan.proofs.walk_tray.Reads as walk_tray

pub Plan-new_same : (κs : _) (a : _) (r r' : _) (e e' : _) → new.Learnt κs a r e → new.Learnt κs a r' e' → r ≡ r'
Plan-new_same κs a r r' e e' p q = p ∙ sym q

pub Plan-set_port_same : (κs : _) (a : _) (r r' : _) (e e' : _) → set_port.Learnt κs a r e → set_port.Learnt κs a r' e' → r ≡ r'
Plan-set_port_same κs a r r' e e' p q = p ∙ sym q

pub Plan-clear_port_same : (κs : _) (a : _) (r r' : _) (e e' : _) → clear_port.Learnt κs a r e → clear_port.Learnt κs a r' e' → r ≡ r'
Plan-clear_port_same κs a r r' e e' p q = p ∙ sym q

pub Plan-set_name_length_same : (κs : _) (a : _) (r r' : _) (e e' : _) → set_name_length.Learnt κs a r e → set_name_length.Learnt κs a r' e' → r ≡ r'
Plan-set_name_length_same κs a r r' e e' p q = p ∙ sym q

pub Plan-clear_name_length_same : (κs : _) (a : _) (r r' : _) (e e' : _) → clear_name_length.Learnt κs a r e → clear_name_length.Learnt κs a r' e' → r ≡ r'
Plan-clear_name_length_same κs a r r' e e' p q = p ∙ sym q

pub Plan-set_keep_alive_same : (κs : _) (a : _) (r r' : _) (e e' : _) → set_keep_alive.Learnt κs a r e → set_keep_alive.Learnt κs a r' e' → r ≡ r'
Plan-set_keep_alive_same κs a r r' e e' p q = p ∙ sym q

pub Plan-clear_keep_alive_same : (κs : _) (a : _) (r r' : _) (e e' : _) → clear_keep_alive.Learnt κs a r e → clear_keep_alive.Learnt κs a r' e' → r ≡ r'
Plan-clear_keep_alive_same κs a r r' e e' p q = p ∙ sym q

-- the tray afterwards is among what the contract determines
pub Plan-append_same : (κs : _) (a : _) (r r' : _) (e e' : _) → append.Learnt κs a r e → append.Learnt κs a r' e' → (r ≡ r') × (e.1.1.0.now ≡ e'.1.1.0.now)
Plan-append_same κs a r r' e e' p q = (appended_apart r r' (p.says ∙ sym q.says), p.left ∙ sym q.left)

pub Plan-length_same : (κs : _) (a : _) (r r' : _) (e e' : _) → length.Learnt κs a r e → length.Learnt κs a r' e' → r ≡ r'
Plan-length_same κs a r r' e e' p q = count_apart r r' (p ∙ sym q)

pub append_denied_same : (κs : _) (a : _) (r r' : _) (e e' : _) → append_denied.Learnt κs a r e → append_denied.Learnt κs a r' e' → (r ≡ r') × (e.1.0.now ≡ e'.1.0.now)
append_denied_same κs a r r' e e' p q = (count_apart r r' (p.says ∙ sym q.says), p.left ∙ sym q.left)

pub walk_tray_same : (κs : _) (a : _) (r r' : _) (e e' : _) → walk_tray.Learnt κs a r e → walk_tray.Learnt κs a r' e' → r ≡ r'
walk_tray_same κs a r r' e e' p q = tally_apart r r' (p ∙ sym q)
