mod FromRun
