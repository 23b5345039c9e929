use Rattle.sy_commands.proofs.commands.report.Goals as goal

pub returns-in-Graph-clause-says : goal.returns-in-Graph-clause-says
returns-in-Graph-clause-says g c = rw c.in-Graph.is (λ text known. c.graph.ensures.draws text known)

pub returns-in-Graph-clause-fails : goal.returns-in-Graph-clause-fails
returns-in-Graph-clause-fails g c = rw c.in-Graph.is (λ text known. c.graph.ensures.fails text known)

pub returns-in-GraphOfClass-clause-says : goal.returns-in-GraphOfClass-clause-says
returns-in-GraphOfClass-clause-says g c = rw c.in-GraphOfClass.is (λ text known. c.graph-in-GraphOfClass.ensures.draws text known)

pub returns-in-GraphOfClass-clause-fails : goal.returns-in-GraphOfClass-clause-fails
returns-in-GraphOfClass-clause-fails g c = rw c.in-GraphOfClass.is (λ text known. c.graph-in-GraphOfClass.ensures.fails text known)
