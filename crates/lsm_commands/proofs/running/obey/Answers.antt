use Rattle.lsm_commands.proofs.running.obey.Goals as goal

pub returns-in-Look-clause-done : goal.returns-in-Look-clause-done
returns-in-Look-clause-done g c = rw c.in-Look.is c.run_look.ensures.done

pub returns-in-Load-clause-done : goal.returns-in-Load-clause-done
returns-in-Load-clause-done g c =
    rw c.in-Load.is (λ done. (c.run_load.ensures.done done, c.run_load.ensures.quiet done))

pub returns-in-Shell-clause-done : goal.returns-in-Shell-clause-done
returns-in-Shell-clause-done g c =
    rw c.in-Shell.is
    (λ done. (c.run_shell.ensures.done done, λ writes. c.run_shell.ensures.quiet writes done))

pub returns-in-Look-clause-refused : goal.returns-in-Look-clause-refused
returns-in-Look-clause-refused g c = rw c.in-Look.is c.run_look.ensures.refused

pub returns-in-Import-clause-done : goal.returns-in-Import-clause-done
returns-in-Import-clause-done g c = rw c.in-Import.is c.run_import.ensures.done

pub returns-in-Recover-clause-done : goal.returns-in-Recover-clause-done
returns-in-Recover-clause-done g c = rw c.in-Recover.is c.run_recover.ensures.done
