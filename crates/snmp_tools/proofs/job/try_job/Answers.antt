use Rattle.std.proofs.Common.{refl}
use Rattle.snmp_tools.proofs.Jobs.{of_ask, of_job}
use Rattle.snmp_tools.proofs.job.try_job.Goals as goal

pub returns-in-Translate : goal.returns-in-Translate
returns-in-Translate g c =
    of_job g.L.Links g.L.Wire.Link (g.F.ModuleLoader.loads c.args.files.now) _ _ _ _ _ c.in-Translate.is (refl, c.translate.ensures)

pub returns-in-Get : goal.returns-in-Get
returns-in-Get g c =
    of_job g.L.Links g.L.Wire.Link (g.F.ModuleLoader.loads c.args.files.now) _ _ _ _ _ c.in-Get.is
    (of_ask g.L.Links g.L.Wire.Link (g.F.ModuleLoader.loads c.args.files.now) _ _ _ _ _ c.of_get.ensures c.ask.ensures)

pub returns-in-Walk : goal.returns-in-Walk
returns-in-Walk g c =
    of_job g.L.Links g.L.Wire.Link (g.F.ModuleLoader.loads c.args.files.now) _ _ _ _ _ c.in-Walk.is
    (of_ask g.L.Links g.L.Wire.Link (g.F.ModuleLoader.loads c.args.files.now) _ _ _ _ _ c.of_walk.ensures c.ask-in-Walk.ensures)

pub returns-in-BulkWalk : goal.returns-in-BulkWalk
returns-in-BulkWalk g c =
    of_job g.L.Links g.L.Wire.Link (g.F.ModuleLoader.loads c.args.files.now) _ _ _ _ _ c.in-BulkWalk.is
    (of_ask g.L.Links g.L.Wire.Link (g.F.ModuleLoader.loads c.args.files.now) _ _ _ _ _ c.of_walk-in-BulkWalk.ensures c.ask-in-BulkWalk.ensures)

pub returns-in-Serve : goal.returns-in-Serve
returns-in-Serve g c = of_job g.L.Links g.L.Wire.Link (g.F.ModuleLoader.loads c.args.files.now) _ _ _ _ _ c.in-Serve.is c.serve_table.ensures
