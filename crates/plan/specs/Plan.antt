-- A reply plan: 01, "Choosing and replying": protocol, algorithm, port if any, server-name length if any, keep-alive, and the used length of a
-- cookie tray; its calls, and its written length.
use Rattle.std.specs.Prelude.{ℕ, ◌+◌, ◌*◌, ◌≡◌, List, Bool, cond, false, length, leb, ltb}
use Rattle.nts.specs.Refusal.{number_of, Beside, nothing, beside_of}
use Rattle.nts.specs.declared.NextProtocol.{NextProtocol}
use Rattle.nts.specs.declared.AeadAlgorithm.{AeadAlgorithm}
use Rattle.layout.specs.Write.{Count, bytes, refused}
use Rattle.plan.specs.Tray.{Fields, broken, fields, cookies_in, field_bytes, behind, bytes_in}
use Rattle.plan.specs.declared.Plan.{Plan}
use Rattle.plan.specs.declared.Port.{Port}
use Rattle.plan.specs.declared.Port.TheVariants as port
use Rattle.plan.specs.declared.NameLength.{NameLength}
use Rattle.plan.specs.declared.NameLength.TheVariants as name
use Rattle.plan.specs.declared.Appended.{Appended}
use Rattle.plan.specs.declared.Appended.TheVariants as appended

-- ---- start, set and clear

abbrev pub started : NextProtocol → AeadAlgorithm → Plan
started p a = record { protocol = p; algorithm = a; port = port.None; name = name.None; keep_alive = false; used = 0 }

abbrev pub with_port : Plan → Port → Plan
with_port x p = record { protocol = x.protocol; algorithm = x.algorithm; port = p; name = x.name; keep_alive = x.keep_alive; used = x.used }

abbrev pub with_name : Plan → NameLength → Plan
with_name x n = record { protocol = x.protocol; algorithm = x.algorithm; port = x.port; name = n; keep_alive = x.keep_alive; used = x.used }

abbrev pub with_keep_alive : Plan → Bool → Plan
with_keep_alive x k = record { protocol = x.protocol; algorithm = x.algorithm; port = x.port; name = x.name; keep_alive = k; used = x.used }

abbrev pub with_used : Plan → ℕ → Plan
with_used x u = record { protocol = x.protocol; algorithm = x.algorithm; port = x.port; name = x.name; keep_alive = x.keep_alive; used = u }

-- ---- the written length

-- a record takes 4 + size bytes; the name's is as long as planned
abbrev pub name_length : NameLength → ℕ
name_length name.None = 0
name_length (name.Bytes n) = n

abbrev pub name_record : NameLength → ℕ
name_record name.None = 0
name_record (name.Bytes n) = 4 + n

abbrev pub port_record : Port → ℕ
port_record port.None = 0
port_record (port.Number n) = 4 + 2

abbrev pub keep_alive_record : Bool → ℕ
keep_alive_record k = cond k 4 0

-- 1, 4, 6 if any, 7 if any, 8 if asked, each cookie, 0
unfoldable pub reply_length : Plan → List (List ℕ) → ℕ
reply_length x l =
    (4 + 2) + (4 + 2) + name_record x.name + port_record x.port + keep_alive_record x.keep_alive + (4 * length l + bytes_in l) + 4

-- 9 for a broken tray and nothing else
abbrev pub length_by : Plan → Fields → Count
length_by x broken = refused 9 nothing
length_by x (fields l) = bytes (reply_length x l)

unfoldable pub plan_length : Plan → List ℕ → Count
plan_length x tray = length_by x (cookies_in x.used tray)

-- ---- a cookie appended

pub data Told : Type 0 where
  grown : Plan → Told
  refused_with : ℕ → Beside → Told

-- 9 for a broken tray, then 8 for the length, 7 for the ninth, 10 for no room
abbrev pub append_by : Plan → ℕ → ℕ → Fields → Told
append_by x room n broken = refused_with 9 nothing
append_by x room n (fields l) =
    cond (ltb 65535 n) (refused_with 8 nothing)
    (cond (leb 8 (length l)) (refused_with 7 nothing)
    (cond (ltb room (x.used + (3 + n))) (refused_with 10 nothing)
    (grown (with_used x (x.used + (3 + n))))))

unfoldable pub append : Plan → List ℕ → List ℕ → Told
append x cookie tray = append_by x (length tray) (length cookie) (cookies_in x.used tray)

-- the tray afterwards: only the bytes of the field that was added change
abbrev pub tray_after : Told → ℕ → List ℕ → List ℕ → List ℕ
tray_after (refused_with k b) used cookie tray = tray
tray_after (grown x) used cookie tray = behind used (field_bytes 1 cookie) tray

-- what each case of the answer says
abbrev pub told_appended : Appended → Told
told_appended (appended.Plan x) = grown x
told_appended (appended.Refused e) = refused_with (number_of e) (beside_of e)

-- the contract: what it answers, and the tray afterwards
pub record Appends (x : Plan) (cookie tray : List ℕ) (r : Appended) (tray' : List ℕ) : Type 0 where
  pub says : told_appended r ≡ append x cookie tray
  pub left : tray' ≡ tray_after (append x cookie tray) x.used cookie tray
