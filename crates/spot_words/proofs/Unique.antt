-- The words stand for one command at most.
use Rattle.std.proofs.Common.{◌≡◌, ◌∙◌, List, Some, sym}
use Rattle.clap.specs.Words.{Text}
use Rattle.spot_terms.specs.declared.command.Command.{Command}
use Rattle.spot_words.specs.Words.{AreCommand}
use Rattle.spot_terms.proofs.Unique.{some_injective}

same_command : (c d : Command) → c.task ≡ d.task → c.steps ≡ d.steps → c.problem ≡ d.problem → c.ego_acc ≡ d.ego_acc → c.ego_speed ≡ d.ego_speed → c.ego_length ≡ d.ego_length → c.ego_width ≡ d.ego_width → c.cell_x ≡ d.cell_x → c.cell_y ≡ d.cell_y → c.seed ≡ d.seed → c.lanes ≡ d.lanes → c.movers ≡ d.movers → c ≡ d
same_command c d e0 e1 e2 e3 e4 e5 e6 e7 e8 e9 ea eb =
    let same : ◌≡◌ {A = Command} (record { task = c.task; steps = c.steps; problem = c.problem; ego_acc = c.ego_acc; ego_speed = c.ego_speed; ego_length = c.ego_length; ego_width = c.ego_width; cell_x = c.cell_x; cell_y = c.cell_y; seed = c.seed; lanes = c.lanes; movers = c.movers }) (record { task = d.task; steps = d.steps; problem = d.problem; ego_acc = d.ego_acc; ego_speed = d.ego_speed; ego_length = d.ego_length; ego_width = d.ego_width; cell_x = d.cell_x; cell_y = d.cell_y; seed = d.seed; lanes = d.lanes; movers = d.movers }) = simp (e0, e1, e2, e3, e4, e5, e6, e7, e8, e9, ea, eb) in same

pub command_is_one : (words : List Text) (c d : Command) → AreCommand words c → AreCommand words d → c ≡ d
command_is_one words c d a b =
    same_command c d (some_injective _ _ (sym a.task ∙ b.task)) (some_injective _ _ (sym a.steps ∙ b.steps)) (some_injective _ _ (sym a.problem ∙ b.problem))
    (some_injective _ _ (sym a.ego_acc ∙ b.ego_acc)) (some_injective _ _ (sym a.ego_speed ∙ b.ego_speed)) (some_injective _ _ (sym a.ego_length ∙ b.ego_length)) (some_injective _ _ (sym a.ego_width ∙ b.ego_width))
    (some_injective _ _ (sym a.cell_x ∙ b.cell_x)) (some_injective _ _ (sym a.cell_y ∙ b.cell_y)) (some_injective _ _ (sym a.seed ∙ b.seed)) (some_injective _ _ (sym a.lanes ∙ b.lanes)) (some_injective _ _ (sym a.movers ∙ b.movers))
