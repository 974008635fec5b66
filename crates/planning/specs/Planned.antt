-- A plan as eight cells that a host keeps, and the calls on it: 01, "Choosing and replying". Cells that hold no plan are 9.
use Rattle.std.specs.Prelude.{ℕ, ◌≡◌, List, [], ◌∷◌, Bool, cond, ◌&&◌, leb, eqb}
use Rattle.nts.specs.Refusal.{nothing}
use Rattle.layout.specs.Write.{Count, refused, fitted}
use Rattle.plan.specs.Tray.{cookies_in}
use Rattle.plan.specs.Plan as plan
use Rattle.plan.specs.declared.Plan.{Plan}
use Rattle.plan.specs.declared.Port.{Port}
use Rattle.plan.specs.declared.Port.TheVariants as port
use Rattle.plan.specs.declared.NameLength.{NameLength}
use Rattle.plan.specs.declared.NameLength.TheVariants as name
use Rattle.messages.specs.Messages.{bodies_of, reply_checked, reply_records, message_of}
use Rattle.cells.specs.Cells.{unplaced, Given, cells, refuses, Gives, flag, cell}

-- ---- the cells

abbrev pub port_there : Port → ℕ
port_there port.None = 0
port_there (port.Number n) = 1

abbrev pub port_number : Port → ℕ
port_number port.None = 0
port_number (port.Number n) = n

abbrev pub name_there : NameLength → ℕ
name_there name.None = 0
name_there (name.Bytes n) = 1

abbrev pub name_number : NameLength → ℕ
name_number name.None = 0
name_number (name.Bytes n) = n

-- protocol, algorithm, the port if any, the server name's length if any, keep-alive, and the tray's used length
abbrev pub plan_cells : Plan → List ℕ
plan_cells x =
    x.protocol.0 ∷ x.algorithm.0 ∷ port_there x.port ∷ port_number x.port ∷ name_there x.name ∷ name_number x.name ∷ flag x.keep_alive ∷ x.used ∷ []

-- ---- the plan that cells hold

pub data Held : Type 0 where
  no_plan : Held
  held : Plan → Held

-- sixteen bits for a number, and 0 or 1 for a flag; of a port or a length that is not planned, any sixteen bits
unfoldable pub is_plan : List ℕ → Bool
is_plan c =
    leb (cell c 0) 65535
    && leb (cell c 1) 65535
    && leb (cell c 2) 1
    && leb (cell c 3) 65535
    && leb (cell c 4) 1
    && leb (cell c 5) 65535
    && leb (cell c 6) 1

abbrev pub plan_of : List ℕ → Plan
plan_of c = record {
  protocol = record { 0 = cell c 0 };
  algorithm = record { 0 = cell c 1 };
  port = cond (eqb (cell c 2) 1) (port.Number (cell c 3)) port.None;
  name = cond (eqb (cell c 4) 1) (name.Bytes (cell c 5)) name.None;
  keep_alive = eqb (cell c 6) 1;
  used = cell c 7;
}

unfoldable pub plan_in : List ℕ → Held
plan_in c = cond (is_plan c) (held (plan_of c)) no_plan

-- ---- set and clear

-- all eight cells are put; the port or the length that is not planned is 0 then
abbrev pub changed : (Plan → Plan) → Held → Given
changed f no_plan = refuses (unplaced 9 nothing)
changed f (held x) = cells (plan_cells (f x))

-- ---- a cookie appended

abbrev pub grown_given : plan.Told → Given
grown_given (plan.grown x) = cells (plan_cells x)
grown_given (plan.refused_with k b) = refuses (unplaced k b)

abbrev pub appended : Held → List ℕ → List ℕ → plan.Told
appended no_plan cookie tray = plan.refused_with 9 nothing
appended (held x) cookie tray = plan.append x cookie tray

abbrev pub used_in : Held → ℕ
used_in no_plan = 0
used_in (held x) = x.used

pub record AppendsTo (lent cookie tray : List ℕ) (r : ℕ) (after tray' : List ℕ) : Type 0 where
  pub gives : Gives (grown_given (appended (plan_in lent) cookie tray)) lent r after
  pub left : tray' ≡ plan.tray_after (appended (plan_in lent) cookie tray) (used_in (plan_in lent)) cookie tray

-- ---- the plan's length, and the reply

abbrev pub planned_length : Held → List ℕ → Count
planned_length no_plan tray = refused 9 nothing
planned_length (held x) tray = plan.plan_length x tray

abbrev pub planned_reply : Held → List ℕ → List ℕ → ℕ → Count
planned_reply no_plan tray server room = refused 9 nothing
planned_reply (held x) tray server room = fitted room (reply_checked x server (cookies_in x.used tray))

abbrev pub planned_bytes : Held → List ℕ → List ℕ → List ℕ
planned_bytes no_plan tray server = []
planned_bytes (held x) tray server = message_of (reply_records x server (bodies_of (cookies_in x.used tray)))
